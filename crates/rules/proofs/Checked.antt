-- The check answers with a number and its lines exactly when the table is as that row says. Assumes nothing.
use Prim.Native.Nat.{ℕ, zero, suc, ◌<◌, ◌≤◌}
use mathlib.Core.Path.{◌≡◌, refl, ap, sym, ◌∙◌, subst, subst⁻¹}
use mathlib.Core.Logic.{◌↔◌, ◌⊎◌, inl, inr}
use mathlib.Core.Bool.{Bool, true, false, not, ◌||◌}
use mathlib.Core.List.{List, [], ◌∷◌}
use lib.ListN.{length, get_or, drop, drop_of_length-le}
use lib.Dec.{ltb, leb}
use native.Mathlib.Omega.{arith}
use native.Mathlib.Nat.{le_of_suc-le-suc, not-suc-le-zero, eq-or-lt_of_le, le_refl}
use native.Mathlib.Decide.{dec_le, dec_lt}
use borrow.Author.Tests.{ltb-true, lt-ltb, le-ltb, leb-true, le-leb}
use Rattle.rules.specs.declared.Line.{Line}
use Rattle.rules.specs.declared.Named.{Named}
use Rattle.rules.specs.declared.Named.TheVariants.{NoneNamed, TheLine, BothLines}
use Rattle.rules.specs.declared.Verdict.{Verdict}
use Rattle.rules.specs.Words.{Within, within}
use Rattle.rules.specs.Table.{Table, size, line_of, no_line, limits, deadline_of, priority_of, DeadlineInRange, LimitInRange, InRange, Passes, Rule, Keeps, verdict, fine, ◌then◌, refuse, ranges_from, breaks, pairs_with, pairs_from, check}
use Rattle.rules.specs.Statement.{Broken, Clash, Sooner, UpTo, Found, row_0, row_1, row_2, row_3, row_4, row_5, CheckExact}
use Rattle.rules.proofs.Bools.{within_test, and_true_both, and_is_true, or_true_one, or_is_true, by_not, decided}

-- ---- numbers below n

-- the first number where A holds, with B at all before it
record First (A B : ℕ → Type 0) (n : ℕ) : Type 0 where
  at : ℕ
  below : at < n
  holds : A at
  before : (m : ℕ) → m < at → B m

-- one below suc n is n or below n
below_suc : (B : ℕ → Type 0) (n : ℕ) → ((m : ℕ) → m < n → B m) → B n → (m : ℕ) → m < suc n → B m
below_suc B n all b m h = go (eq-or-lt_of_le (le_of_suc-le-suc h))
  where
    go : (m ≡ n) ⊎ (m < n) → B m
    go (inl e) = subst⁻¹ B e b
    go (inr l) = all m l

-- where each number has A or B, there is a first A or B holds of all
first_or_all : (A B : ℕ → Type 0) → ((m : ℕ) → A m ⊎ B m) → (n : ℕ) → First A B n ⊎ ((m : ℕ) → m < n → B m)
first_or_all A B each zero = inr (λ m h. absurd (not-suc-le-zero h))
first_or_all A B each (suc n) = go (first_or_all A B each n) (each n)
  where
    go : First A B n ⊎ ((m : ℕ) → m < n → B m) → A n ⊎ B n → First A B (suc n) ⊎ ((m : ℕ) → m < suc n → B m)
    go (inl f) e = inl (record { at = f.at; below = omega (arith, f.below); holds = f.holds; before = f.before })
    go (inr all) (inl a) = inl (record { at = n; below = le_refl (suc n); holds = a; before = all })
    go (inr all) (inr b) = inr (below_suc B n all b)

-- what no step changes is the same at both ends
walk : (g : ℕ → Verdict) (a n : ℕ) → a ≤ n → ((m : ℕ) → a ≤ m → m < n → g m ≡ g (suc m)) → g a ≡ g n
walk g a zero h step = ap g (omega arith)
walk g a (suc n) h step = go (eq-or-lt_of_le h) (walk g a n)
  where
    go : (a ≡ suc n) ⊎ (a < suc n) → (a ≤ n → ((m : ℕ) → a ≤ m → m < n → g m ≡ g (suc m)) → g a ≡ g n) → g a ≡ g (suc n)
    go (inl e) ih = ap g e
    go (inr l) ih = ih (le_of_suc-le-suc l) (λ m b c. step m b (omega arith)) ∙ step n (le_of_suc-le-suc l) (le_refl (suc n))

-- ---- verdicts one behind the other

-- a refusal stays
then_stop : (n : ℕ) (ls : Named) (v w : Verdict) → v ≡ verdict (suc n) ls → (v then w) ≡ verdict (suc n) ls
unfolding ◌then◌
then_stop n ls v w e = ap (λ (z : Verdict). z then w) e

-- nothing found: the next one tells
then_next : (v w : Verdict) → v ≡ fine → (v then w) ≡ w
unfolding ◌then◌
then_next v w e = ap (λ (z : Verdict). z then w) e

-- a refusal is made where its test says so
refuse_yes : (n : ℕ) (ls : Named) (t : Bool) → t ≡ true → refuse n ls t ≡ verdict n ls
unfolding refuse
refuse_yes n ls t e = ap (refuse n ls) e

-- and only there
refuse_no : (n : ℕ) (ls : Named) (t : Bool) → t ≡ false → refuse n ls t ≡ fine
unfolding refuse
refuse_no n ls t e = ap (refuse n ls) e

-- ---- what the tests tell

-- a number out of its range is refused
refuse_outside : (n : ℕ) (ls : Named) (lo hi x : ℕ) → (Within lo hi x → ⊥) → refuse n ls (not (within lo hi x)) ≡ verdict n ls
refuse_outside n ls lo hi x h = refuse_yes n ls (not (within lo hi x)) (ap not (by_not (within lo hi x) (λ e. h ((within_test lo hi x).0 e))))

-- and one in its range is not
refuse_inside : (n : ℕ) (ls : Named) (lo hi x : ℕ) → Within lo hi x → refuse n ls (not (within lo hi x)) ≡ fine
refuse_inside n ls lo hi x w = refuse_no n ls (not (within lo hi x)) (ap not ((within_test lo hi x).1 w))

-- the first line is the shorter and not higher
abbrev Breaking : Line → Line → Type 0
Breaking x y = (x.deadline.0 < y.deadline.0) × (x.priority ≤ y.priority)

-- the test of two lines in one order
breaks_test : (x y : Line) → (breaks x y ≡ true) ↔ Breaking x y
breaks_test x y = (
  λ e. let b = and_true_both d p e in (ltb-true x.deadline.0 y.deadline.0 b.0, leb-true x.priority y.priority b.1),
  λ b. and_is_true d p (lt-ltb x.deadline.0 y.deadline.0 b.0, le-leb x.priority y.priority b.1),
)
  where
    d : Bool
    d = ltb x.deadline.0 y.deadline.0

    p : Bool
    p = leb x.priority y.priority

-- and in both
clash_test : (x y : Line) → ((breaks x y || breaks y x) ≡ true) ↔ (Breaking x y ⊎ Breaking y x)
clash_test x y = (λ e. to (or_true_one (breaks x y) (breaks y x) e), λ c. or_is_true (breaks x y) (breaks y x) (back c))
  where
    to : (breaks x y ≡ true) ⊎ (breaks y x ≡ true) → Breaking x y ⊎ Breaking y x
    to (inl e) = inl ((breaks_test x y).0 e)
    to (inr e) = inr ((breaks_test y x).0 e)

    back : Breaking x y ⊎ Breaking y x → (breaks x y ≡ true) ⊎ (breaks y x ≡ true)
    back (inl b) = inl ((breaks_test x y).1 b)
    back (inr b) = inr ((breaks_test y x).1 b)

-- ---- the lines from n on

-- a task with a place among the lines has that line
pub listed_line : (T : Table) (n : ℕ) → n < size T → line_of T n ≡ get_or T.lines n no_line
listed_line T n h = refl

-- what is left begins with line n
drop_next : (xs : List Line) (n : ℕ) → n < length xs → drop n xs ≡ get_or xs n no_line ∷ drop (suc n) xs
drop_next [] n h = absurd (not-suc-le-zero h)
drop_next (x ∷ xs) zero h = refl
drop_next (x ∷ xs) (suc n) h = drop_next xs n (le_of_suc-le-suc h)

module _ (T : Table) where
  -- the lines from n on
  abbrev from : ℕ → List Line
  from n = drop n T.lines

  -- they begin with the line of task n
  from_next : (n : ℕ) → n < size T → from n ≡ line_of T n ∷ from (suc n)
  from_next n h = drop_next T.lines n h ∙ ap (λ (x : Line). x ∷ from (suc n)) (sym (listed_line T n h))

  -- none is left behind the last
  from_size : from (size T) ≡ []
  from_size = drop_of_length-le T.lines (le_refl (size T))

  -- ---- 2 and 3: the facts give the verdict

  -- a line in range leaves the answer to the next
  ranges_next : (n : ℕ) → n < size T → InRange (line_of T n) → ranges_from n (from n) ≡ ranges_from (suc n) (from (suc n))
  ranges_next n h r =
      ap (ranges_from n) (from_next n h)
      ∙ then_next _ _ (refuse_inside 2 (TheLine n) 1 1000000000 _ r.deadline)
      ∙ then_next _ _ (refuse_inside 3 (TheLine n) 1 32 _ r.limit)

  -- a line with a bad deadline is named with 2
  ranges_2 : (n : ℕ) → n < size T → (DeadlineInRange (line_of T n) → ⊥) → ranges_from n (from n) ≡ verdict 2 (TheLine n)
  ranges_2 n h d =
      ap (ranges_from n) (from_next n h)
      ∙ then_stop 1 (TheLine n) _ _ (refuse_outside 2 (TheLine n) 1 1000000000 _ d)

  -- one with a bad limit only, with 3
  ranges_3 : (n : ℕ) → n < size T → DeadlineInRange (line_of T n) → (LimitInRange (line_of T n) → ⊥) → ranges_from n (from n) ≡ verdict 3 (TheLine n)
  ranges_3 n h d l =
      ap (ranges_from n) (from_next n h)
      ∙ then_next _ _ (refuse_inside 2 (TheLine n) 1 1000000000 _ d)
      ∙ then_stop 2 (TheLine n) _ _ (refuse_outside 3 (TheLine n) 1 32 _ l)

  -- all before n in range: the answer is from n on
  ranges_to : (n : ℕ) → n ≤ size T → ((m : ℕ) → m < n → InRange (line_of T m)) → ranges_from 0 T.lines ≡ ranges_from n (from n)
  ranges_to n h r = walk (λ m. ranges_from m (from m)) 0 n (omega arith) (λ m _ b. ranges_next m (omega arith) (r m b))

  -- and where all are, nothing is found
  ranges_fine : ((m : ℕ) → m < size T → InRange (line_of T m)) → ranges_from 0 T.lines ≡ fine
  ranges_fine r = ranges_to (size T) (le_refl (size T)) r ∙ ap (ranges_from (size T)) from_size

  -- ---- 5: the facts give the verdict

  -- line i with each line from j on
  abbrev with_line : ℕ → ℕ → Verdict
  with_line i j = pairs_with i (line_of T i) j (from j)

  -- no clash with j leaves the answer to the next
  with_next : (i j : ℕ) → j < size T → (Clash T i j → ⊥) → with_line i j ≡ with_line i (suc j)
  with_next i j h c =
      ap (pairs_with i (line_of T i) j) (from_next j h)
      ∙ then_next _ _ (refuse_no 5 (BothLines i j) _ (by_not _ (λ e. c ((clash_test (line_of T i) (line_of T j)).0 e))))

  -- a clash with j is named with 5
  with_stop : (i j : ℕ) → j < size T → Clash T i j → with_line i j ≡ verdict 5 (BothLines i j)
  with_stop i j h c =
      ap (pairs_with i (line_of T i) j) (from_next j h)
      ∙ then_stop 4 (BothLines i j) _ _ (refuse_yes 5 (BothLines i j) _ ((clash_test (line_of T i) (line_of T j)).1 c))

  -- no clash before n: the answer is from n on
  with_to : (i n : ℕ) → i < n → n ≤ size T → ((j : ℕ) → i < j → j < n → Clash T i j → ⊥) → with_line i (suc i) ≡ with_line i n
  with_to i n l h c = walk (with_line i) (suc i) n l (λ j a b. with_next i j (omega arith) (c j a b))

  -- no clash of line i leaves the answer to the next line
  pairs_next : (i : ℕ) → i < size T → ((j : ℕ) → i < j → j < size T → Clash T i j → ⊥) → pairs_from i (from i) ≡ pairs_from (suc i) (from (suc i))
  pairs_next i h c =
      ap (pairs_from i) (from_next i h)
      ∙ then_next _ _ (with_to i (size T) h (le_refl (size T)) c ∙ ap (pairs_with i (line_of T i) (size T)) from_size)

  -- the first clash of line i is named with 5
  pairs_stop : (i j : ℕ) → i < j → j < size T → Clash T i j → ((n : ℕ) → i < n → n < j → Clash T i n → ⊥) → pairs_from i (from i) ≡ verdict 5 (BothLines i j)
  pairs_stop i j l h c none =
      ap (pairs_from i) (from_next i (omega arith))
      ∙ then_stop 4 (BothLines i j) _ _ (with_to i j l (omega arith) none ∙ with_stop i j h c)

  -- no clash of a line before n: the answer is from n on
  pairs_to : (n : ℕ) → n ≤ size T → ((i j : ℕ) → i < n → i < j → j < size T → Clash T i j → ⊥) → pairs_from 0 T.lines ≡ pairs_from n (from n)
  pairs_to n h c = walk (λ m. pairs_from m (from m)) 0 n (omega arith) (λ m _ b. pairs_next m (omega arith) (λ j. c m j b))

  -- ---- the whole check

  -- 1 to 32 lines: the lines tell
  check_2 : Within 1 32 (size T) → check T ≡ (ranges_from 0 T.lines then refuse 4 NoneNamed (ltb 32 (limits T.lines)) then pairs_from 0 T.lines)
  check_2 c = then_next _ _ (refuse_inside 1 NoneNamed 1 32 (size T) c)

  -- and all in range: the sum of the limits tells
  check_4 : Within 1 32 (size T) → ((n : ℕ) → n < size T → InRange (line_of T n)) → check T ≡ (refuse 4 NoneNamed (ltb 32 (limits T.lines)) then pairs_from 0 T.lines)
  check_4 c r = check_2 c ∙ then_next _ _ (ranges_fine r)

  -- and the sum fits: the pairs tell
  check_5 : Passes T → check T ≡ pairs_from 0 T.lines
  check_5 p = check_4 p.counted p.ranged ∙ then_next _ _ (refuse_no 4 NoneNamed _ (le-ltb 32 (limits T.lines) p.summed))

  -- a line refused with 2 or 3
  refused_line : (k i : ℕ) → UpTo T i → ranges_from i (from i) ≡ verdict (suc k) (TheLine i) → check T ≡ verdict (suc k) (TheLine i)
  refused_line k i u e = check_2 u.counted ∙ then_stop k (TheLine i) _ _ (ranges_to i (omega (arith, u.line)) u.before ∙ e)

  -- where the rule is kept no two lines clash
  no_clash : Rule T → (i j : ℕ) → i < size T → j < size T → Clash T i j → ⊥
  no_clash r i j a b (inl c) = let h = r i j a b c.0 in omega arith
  no_clash r i j a b (inr c) = let h = r j i b a c.0 in omega arith

  -- the other way: of two lines one comes first, and the two do not clash
  rule_kept : ((i j : ℕ) → i < j → j < size T → Clash T i j → ⊥) → Rule T
  rule_kept c i j a b d = go (dec_lt (priority_of T j) (priority_of T i)) (dec_lt i j)
    where
      go : Dec (priority_of T j < priority_of T i) → Dec (i < j) → priority_of T j < priority_of T i
      go (yes p) o = p
      go (no n) (yes l) = absurd (c i j l b (inl (d, omega arith)))
      go (no n) (no l) =
          let other : (i ≡ j → ⊥) = λ e. let same : (deadline_of T i).0 ≡ (deadline_of T j).0 = ap (λ m. (deadline_of T m).0) e in omega arith in
          absurd (c j i (omega arith) a (inr (d, omega arith)))

  -- each row's facts give its verdict
  row_is : (v : Verdict) → Found T v → check T ≡ v
  row_is v (row_1 h) = then_stop 0 NoneNamed _ _ (refuse_outside 1 NoneNamed 1 32 (size T) h)
  row_is v (row_2 i u d) = refused_line 1 i u (ranges_2 i u.line d)
  row_is v (row_3 i u d l) = refused_line 2 i u (ranges_3 i u.line d l)
  row_is v (row_4 c r s) = check_4 c r ∙ then_stop 3 NoneNamed _ _ (refuse_yes 4 NoneNamed _ (lt-ltb 32 (limits T.lines) s))
  row_is v (row_5 i j p f) =
      check_5 p
      ∙ pairs_to i (omega (arith, f.below, f.line)) (λ m n a l h. f.none_sooner m n l h (inl a))
      ∙ pairs_stop i j f.below f.line f.clash (λ n l b. f.none_sooner i n l (omega (arith, f.line)) (inr (refl, b)))
  row_is v (row_0 k) =
      check_5 k.passes
      ∙ pairs_to (size T) (le_refl (size T)) (λ i j a l h. no_clash k.rule i j a h)
      ∙ ap (pairs_from (size T)) from_size

  -- ---- some row's facts hold

  -- an answer and its row
  abbrev Row : Type 0
  Row = (v : Verdict) × Found T v

  -- what 2 or 3 refuses
  abbrev Outside : ℕ → Type 0
  Outside n = (DeadlineInRange (line_of T n) → ⊥) ⊎ (DeadlineInRange (line_of T n) × (LimitInRange (line_of T n) → ⊥))

  -- the two tests of a line decide
  each_line : (n : ℕ) → Outside n ⊎ InRange (line_of T n)
  each_line n = go (decided _ (within_test 1 1000000000 (deadline_of T n).0)) (decided _ (within_test 1 32 (line_of T n).limit))
    where
      go : Dec (DeadlineInRange (line_of T n)) → Dec (LimitInRange (line_of T n)) → Outside n ⊎ InRange (line_of T n)
      go (no d) l = inl (inl d)
      go (yes d) (no l) = inl (inr (d, l))
      go (yes d) (yes l) = inr (record { deadline = d; limit = l })

  -- no clash of line i with one behind it
  abbrev Clear : ℕ → Type 0
  Clear i = (j : ℕ) → j < size T → i < j → Clash T i j → ⊥

  -- the first clash of line i with one behind it
  abbrev Clashing : ℕ → Type 0
  Clashing i = First (λ j. (i < j) × Clash T i j) (λ j. i < j → Clash T i j → ⊥) (size T)

  -- the tests of two lines decide
  each_pair : (i j : ℕ) → ((i < j) × Clash T i j) ⊎ (i < j → Clash T i j → ⊥)
  each_pair i j = go (dec_lt i j) (decided _ (clash_test (line_of T i) (line_of T j)))
    where
      go : Dec (i < j) → Dec (Clash T i j) → ((i < j) × Clash T i j) ⊎ (i < j → Clash T i j → ⊥)
      go (no l) c = inr (λ h _. l h)
      go (yes l) (no c) = inr (λ _ h. c h)
      go (yes l) (yes c) = inl (l, c)

  -- row 5 by the first clash, or row 0 without one
  pair_row : Passes T → First Clashing Clear (size T) ⊎ ((i : ℕ) → i < size T → Clear i) → Row
  pair_row p (inr clear) = (_, row_0 (record { passes = p; rule = rule_kept (λ i j l h. clear i (omega arith) j h l) }))
  pair_row p (inl f) = (_, row_5 f.at f.holds.at p (record { below = f.holds.holds.0; line = f.holds.below; clash = f.holds.holds.1; none_sooner = sooner }))
    where
      sooner : (m n : ℕ) → m < n → n < size T → Sooner m n f.at f.holds.at → Clash T m n → ⊥
      sooner m n l h (inl a) = f.before m a n h l
      sooner m n l h (inr a) = subst⁻¹ (λ i. i < n → Clash T i n → ⊥) a.0 (f.holds.before n a.1) l

  -- row 4, or on to the pairs
  sum_row : Within 1 32 (size T) → ((n : ℕ) → n < size T → InRange (line_of T n)) → Dec (limits T.lines ≤ 32) → Row
  sum_row c r (no s) = (_, row_4 c r (omega arith))
  sum_row c r (yes s) =
      pair_row (record { counted = c; ranged = r; summed = s }) (first_or_all Clashing Clear (λ i. first_or_all _ _ (each_pair i) (size T)) (size T))

  -- rows 2 and 3 by the first line out of range, or on to the sum
  line_row : Within 1 32 (size T) → First Outside (λ n. InRange (line_of T n)) (size T) ⊎ ((n : ℕ) → n < size T → InRange (line_of T n)) → Row
  line_row c (inr r) = sum_row c r (dec_le (limits T.lines) 32)
  line_row c (inl f) = go f.holds
    where
      up_to : UpTo T f.at
      up_to = record { counted = c; before = f.before; line = f.below }

      go : Outside f.at → Row
      go (inl d) = (_, row_2 f.at up_to d)
      go (inr d) = (_, row_3 f.at up_to d.0 d.1)

  -- row 1, or on to the lines
  some_row : Dec (Within 1 32 (size T)) → Row
  some_row (no c) = (_, row_1 c)
  some_row (yes c) = line_row c (first_or_all Outside (λ n. InRange (line_of T n)) each_line (size T))

  -- the answer's own row
  found : Found T (check T)
  found = let r = some_row (decided _ (within_test 1 32 (size T))) in subst⁻¹ (Found T) (row_is r.0 r.1) r.1

-- an answer's facts hold, and the facts give the answer
pub check_exact : CheckExact
check_exact T v = (λ e. subst (Found T) e (found T), row_is T v)

-- ---- what follows

-- two lines that break the rule leave row 5 only
pub broken_is_5 : (T : Table) (i j : ℕ) → Broken T i j → (check T).number ≡ 5
broken_is_5 T i j b = go (check T) (found T)
  where
    go : (v : Verdict) → Found T v → v.number ≡ 5
    go v (row_1 h) = absurd (h b.passes.counted)
    go v (row_2 n u d) = absurd (d (b.passes.ranged n u.line).deadline)
    go v (row_3 n u d l) = absurd (l (b.passes.ranged n u.line).limit)
    go v (row_4 c r s) = absurd (omega (arith, b.passes.summed))
    go v (row_5 m n p f) = refl
    go v (row_0 k) = let h = k.rule i j b.short b.long b.shorter in absurd (omega (arith, b.not_higher))

-- the answer 0 is row 0's
pub keeps_found : (T : Table) → (check T).number ≡ 0 → Keeps T
keeps_found T = go (check T) (found T)
  where
    go : (v : Verdict) → Found T v → v.number ≡ 0 → Keeps T
    go v (row_1 h) e = absurd (omega arith)
    go v (row_2 n u d) e = absurd (omega arith)
    go v (row_3 n u d l) e = absurd (omega arith)
    go v (row_4 c r s) e = absurd (omega arith)
    go v (row_5 m n p f) e = absurd (omega arith)
    go v (row_0 k) e = k

-- and row 0 gives the answer 0
pub found_keeps : (T : Table) → Keeps T → check T ≡ verdict 0 NoneNamed
found_keeps T k = (check_exact T fine).1 (row_0 k)
