-- What a turn of each loop and each test of the check does to what is left to do. Assumes nothing.
use Prim.Native.Nat.{ℕ, zero, suc, ◌+◌, ◌-◌, ◌<◌, ◌≤◌}
use mathlib.Core.Path.{◌≡◌, refl, ap, sym, ◌∙◌}
use mathlib.Core.Bool.{Bool, true, false, not, ◌||◌}
use mathlib.Core.List.{List, ◌∷◌, ◌++◌, append-nil}
use lib.ListN.{length, take, drop, set, replicate, length-take, length-append, length-replicate, drop_of_length-le}
use lib.Seq.{drop-cons, length-take-le, take-suc-set, take_all, append_snoc}
use lib.Dec.{ltb}
use native.Mathlib.Numerals.{add-one}
use native.Mathlib.Omega.{arith}
use borrow.Author.Tests.{lt-ltb, le-ltb}
use Rattle.rules.specs.declared.Line.{Line}
use Rattle.rules.specs.declared.Named.{Named}
use Rattle.rules.specs.declared.Named.TheVariants.{NoneNamed, TheLine, BothLines}
use Rattle.rules.specs.declared.Verdict.{Verdict}
use Rattle.rules.specs.Words.{Within, within, places}
use Rattle.rules.specs.Statement.{row_1}
use Rattle.rules.specs.Table.{DeadlineInRange, LimitInRange, size, no_line, limits, verdict, fine, ◌then◌, refuse, ranges_from, breaks, pairs_with, pairs_from, check}
use Rattle.rules.proofs.Bools.{within_test, by_not}
use Rattle.rules.proofs.Checked.{check_exact}
use Rattle.table.specs.Lines.{TaskTable, packed, line_at, lines_in, given, line_answer, refused_as}
use Rattle.table.specs.declared.TableRefusal.{TableRefusal}
use Rattle.table.specs.declared.TableRefusal.TheVariants.{LineCount, Deadline, Limit, LimitSum, Priority}
use Rattle.std.specs.List.{sum_by}
use Rattle.std.proofs.lemmas.List.Recursion.{is_sum_by}

-- ---- verdicts one behind the other

-- nothing found: the next one tells
then_next : (v w : Verdict) → v.number ≡ 0 → (v then w) ≡ w
unfolding ◌then◌
then_next v w h = rw h

-- a refusal stays
then_stop : (v w : Verdict) → (v.number ≡ 0 → ⊥) → (v then w) ≡ v
unfolding ◌then◌
then_stop v w h = go v.number h
  where
    go : (n : ℕ) → (n ≡ 0 → ⊥) → elim n [ zero ↦ w | suc m ↦ v ] ≡ v
    go zero k = absurd (k refl)
    go (suc n) k = refl

-- a test that fails leaves the answer to the next
refuse_next : (n : ℕ) (ls : Named) (b : Bool) (w : Verdict) → b ≡ false → (refuse n ls b then w) ≡ w
unfolding ◌then◌ refuse
refuse_next n ls b w h = rw h

-- a test that holds stays the answer
refuse_stop : (n : ℕ) (ls : Named) (b : Bool) (w : Verdict) → b ≡ true → (refuse (suc n) ls b then w) ≡ verdict (suc n) ls
unfolding ◌then◌ refuse
refuse_stop n ls b w h = rw h

-- ---- a line

-- what a range's test says of a number out of it
outside : (lo hi x : ℕ) → (Within lo hi x → ⊥) → not (within lo hi x) ≡ true
outside lo hi x h = ap not (by_not (within lo hi x) (λ e. h ((within_test lo hi x).0 e)))

-- and of one in it
inside : (lo hi x : ℕ) → Within lo hi x → not (within lo hi x) ≡ false
inside lo hi x w = ap not ((within_test lo hi x).1 w)

-- a line's answer, by its two tests
abbrev line_by : ℕ → Bool → Bool → Verdict
line_by i s t = refuse 2 (TheLine i) s then refuse 3 (TheLine i) t then fine

-- the deadline's test comes first
pub refusal_2 : (i : ℕ) (x : Line) → (DeadlineInRange x → ⊥) → line_answer i x ≡ verdict 2 (TheLine i)
unfolding line_answer ◌then◌ refuse
refusal_2 i x h = ap (λ s. line_by i s (not (within 1 32 x.limit))) (outside 1 1000000000 x.deadline.0 h)

-- then the limit's
pub refusal_3 : (i : ℕ) (x : Line) → DeadlineInRange x → (LimitInRange x → ⊥) → line_answer i x ≡ verdict 3 (TheLine i)
unfolding line_answer ◌then◌ refuse
refusal_3 i x d h = λ w. line_by i (inside 1 1000000000 x.deadline.0 d w) (outside 1 32 x.limit h w)

-- a line that passes both is not refused
pub refusal_0 : (i : ℕ) (x : Line) → DeadlineInRange x → LimitInRange x → line_answer i x ≡ fine
unfolding line_answer ◌then◌ refuse
refusal_0 i x d l = λ w. line_by i (inside 1 1000000000 x.deadline.0 d w) (inside 1 32 x.limit l w)

-- the two tests of a line are one answer
line_told : (i : ℕ) (s t : Bool) (w : Verdict) → (refuse 2 (TheLine i) s then refuse 3 (TheLine i) t then w) ≡ (line_by i s t then w)
unfolding ◌then◌ refuse
line_told i true t w = refl
line_told i false true w = refl
line_told i false false w = refl

-- 2 and 3 from a line on
ranges_line : (i : ℕ) (x : Line) (xs : List Line) → ranges_from i (x ∷ xs) ≡ (line_answer i x then ranges_from (suc i) xs)
unfolding line_answer
ranges_line i x xs = line_told i (not (within 1 1000000000 x.deadline.0)) (not (within 1 32 x.limit)) (ranges_from (suc i) xs)

-- a refusal has a number
pub refused_number : (r : TableRefusal) → (refused_as r).number ≡ 0 → ⊥
refused_number LineCount h = omega arith
refused_number (Deadline i) h = omega arith
refused_number (Limit i) h = omega arith
refused_number LimitSum h = omega arith
refused_number (Priority i j) h = omega arith

-- ---- the lines of a table

module _ (xs : List Line) where
  -- from i on they begin with line i
  lines_step : (i : ℕ) → i < length xs → drop i xs ≡ line_at xs i ∷ drop (suc i) xs
  lines_step i h = drop-cons xs i no_line h

  -- line i is in range: the next line tells
  pub ranges_turn : (i : ℕ) → i < length xs → fine ≡ line_answer i (line_at xs i) → ranges_from (i + 1) (drop (i + 1) xs) ≡ ranges_from i (drop i xs)
  ranges_turn i h z =
      rw (add-one, lines_step i h)
      (sym (ranges_line i (line_at xs i) (drop (suc i) xs) ∙ then_next (line_answer i (line_at xs i)) _ (ap (λ (v : Verdict). v.number) (sym z))))

  -- line i is not: it is the answer
  pub ranges_stop : (i : ℕ) (r : TableRefusal) → i < length xs → refused_as r ≡ line_answer i (line_at xs i) → refused_as r ≡ ranges_from i (drop i xs)
  ranges_stop i r h z =
      rw (lines_step i h)
      (sym (ranges_line i (line_at xs i) (drop (suc i) xs) ∙ ap (λ (v : Verdict). v then ranges_from (suc i) (drop (suc i) xs)) (sym z) ∙ then_stop (refused_as r) _ (refused_number r)))

  -- line i with those behind it, then the next line
  pub pairs_enter : (i : ℕ) → i < length xs → (pairs_with i (line_at xs i) (i + 1) (drop (i + 1) xs) then pairs_from (i + 1) (drop (i + 1) xs)) ≡ pairs_from i (drop i xs)
  pairs_enter i h = rw (add-one, lines_step i h)

  -- lines i and j do not clash: the next line j tells
  pub pairs_turn : (i j : ℕ) (x : Line) (w : Verdict) → j < length xs → (breaks x (line_at xs j) || breaks (line_at xs j) x) ≡ false → (pairs_with i x (j + 1) (drop (j + 1) xs) then w) ≡ (pairs_with i x j (drop j xs) then w)
  pairs_turn i j x w h b =
      rw (add-one, lines_step j h)
      (ap (λ (v : Verdict). v then w) (sym (refuse_next 5 (BothLines i j) _ (pairs_with i x (suc j) (drop (suc j) xs)) b)))

  -- they do: they are the answer
  pub pairs_stop : (i j : ℕ) (x : Line) (w : Verdict) → j < length xs → (breaks x (line_at xs j) || breaks (line_at xs j) x) ≡ true → verdict 5 (BothLines i j) ≡ (pairs_with i x j (drop j xs) then w)
  pairs_stop i j x w h b =
      let s = refuse_stop 4 (BothLines i j) (breaks x (line_at xs j) || breaks (line_at xs j) x) (pairs_with i x (suc j) (drop (suc j) xs)) b in
      rw (lines_step j h, s)
      (sym (then_stop (verdict 5 (BothLines i j)) w (λ z. omega arith)))

  -- line i clashes with none: the next line i tells
  pub pairs_leave : (i j : ℕ) (x : Line) (w : Verdict) → length xs ≤ j → w ≡ (pairs_with i x j (drop j xs) then w)
  pairs_leave i j x w h = rw (drop_of_length-le xs h) (sym (then_next fine w refl))

  -- all lines are passed
  pub pairs_end : (i : ℕ) → length xs ≤ i → pairs_from i (drop i xs) ≡ fine
  pairs_end i h = rw (drop_of_length-le xs h)

-- the limits, as std adds them
pub limits_law : (xs : List Line) → sum_by (λ (x : Line). x.limit) xs ≡ limits xs
limits_law xs = sym (is_sum_by limits (λ (x : Line). x.limit) refl (λ x l. refl) xs)

-- ---- the check

module _ (t : TaskTable) (e : length t.lines ≡ places) where
  -- the table that was given has as many lines as the count says
  pub given_size : size (given t) ≡ t.count
  given_size = simp (length-append, length-take, length-replicate) (omega arith)

  -- and no others than the first 32, if there are no more
  pub given_few : t.count ≤ places → (given t).lines ≡ lines_in t
  given_few h = let z : t.count - places ≡ 0 = omega arith in rw z (append-nil (lines_in t))

  -- so a count out of range is the first row
  pub check_1 : (Within 1 32 t.count → ⊥) → verdict 1 NoneNamed ≡ check (given t)
  check_1 h = sym ((check_exact (given t) (verdict 1 NoneNamed)).1 (row_1 (λ w. h (rw given_size at w))))

  -- with 1 to 32 lines it goes on with what `ranges` told
  module _ (w : Within 1 32 t.count) (v : Verdict) (r : v ≡ ranges_from 0 (lines_in t)) where
    -- checks 2 to 5 of the lines
    check_rest : (v then refuse 4 NoneNamed (ltb 32 (limits (lines_in t))) then pairs_from 0 (lines_in t)) ≡ check (given t)
    check_rest = sym (refuse_next 1 NoneNamed _ _ (inside 1 32 (size (given t)) (rw given_size w)) ∙ rw (given_few w.1, r))

    -- 2 or 3
    pub check_ranges : (v.number ≡ 0 → ⊥) → v ≡ check (given t)
    check_ranges h = sym (then_stop v _ h) ∙ check_rest

    -- 4
    pub check_4 : v.number ≡ 0 → 32 < limits (lines_in t) → verdict 4 NoneNamed ≡ check (given t)
    check_4 z h = sym (then_next v _ z ∙ refuse_stop 3 NoneNamed _ _ (lt-ltb 32 (limits (lines_in t)) h)) ∙ check_rest

    -- 5 or 0
    pub check_pairs : v.number ≡ 0 → limits (lines_in t) ≤ 32 → pairs_from 0 (lines_in t) ≡ check (given t)
    check_pairs z h = sym (then_next v _ z ∙ refuse_next 4 NoneNamed _ _ (le-ltb 32 (limits (lines_in t)) h)) ∙ check_rest

-- ---- a table that is kept

-- one place more is blank
pub blank_turn : (ls : List Line) (i : ℕ) → length ls ≡ places → i < places → take (i + 1) (set ls i no_line) ++ replicate (places - (i + 1)) no_line ≡ take i ls ++ replicate (places - i) no_line
blank_turn ls i e h =
    let k : i < length ls = omega arith in
    let z : places - i ≡ suc (places - suc i) = omega arith in
    rw (add-one, take-suc-set ls i no_line k, z)
    (append_snoc (take i ls) no_line (replicate (places - suc i) no_line))

-- all places are passed
pub blank_end : (ls : List Line) (i : ℕ) → length ls ≡ places → places ≤ i → take i ls ++ replicate (places - i) no_line ≡ ls
blank_end ls i e h =
    let z : places - i ≡ 0 = omega arith in
    let k : length ls ≤ i = omega arith in
    rw (take_all i ls k, z) (append-nil ls)

-- what stands in front of the blanks is what is kept
pub kept_is : (t : TaskTable) (ls : List Line) → length t.lines ≡ places → t.count ≤ places → ls ≡ lines_in t ++ replicate (places - t.count) no_line → ◌≡◌ {A = TaskTable} (record { lines = ls; count = t.count }) (packed (lines_in t))
unfolding packed
kept_is t ls e m h =
    let n : t.count ≡ length (lines_in t) = sym (length-take-le t.count t.lines (omega arith)) in
    λ i. record { lines = (h ∙ ap (λ (k : ℕ). lines_in t ++ replicate (places - k) no_line) n) i; count = n i }
