-- What a copy of lent lines holds. Assumes nothing.
use Prim.Native.Nat.{ℕ, suc, ◌+◌, ◌-◌, ◌<◌, ◌≤◌}
use mathlib.Core.Path.{◌≡◌, refl, ap, sym, ◌∙◌}
use mathlib.Core.List.{List, [], ◌∷◌, ◌++◌, foldl, append-nil}
use native.Mathlib.Nat.{sub-zero}
use native.Mathlib.Omega.{arith}
use native.Mathlib.Decide.{dec_le}
use borrow.Author.Tests.{lt-ltb, le-leb, lt-leb}
use lib.ListN.{length, take, set, replicate, length-append}
use lib.Seq.{set-append_seam, append_snoc, take-length}
use Rattle.rules.specs.declared.Line.{Line}
use Rattle.rules.specs.Words.{places}
use Rattle.rules.specs.Table.{no_line}
use Rattle.table.specs.Lines.{TaskTable, packed, lines_in}
use Rattle.table.specs.Copy.{Copy, lines_read, begun, pushed, copy, as_list, pushed_of}
use Rattle.table.proofs.Packed.{kept_lines, count_packed, packed_length}

-- ---- how many are read

module _ (p n : ℕ) where
  pub reads_all : n ≤ p → lines_read p n ≡ n
  reads_all h = rw (le-leb n p h)

  pub reads_none : p < n → lines_read p n ≡ 0
  reads_none h = rw (lt-leb n p h)

  pub reads_le : lines_read p n ≤ n
  reads_le = go (dec_le n p)
    where
      go : Dec (n ≤ p) → lines_read p n ≤ n
      go (yes h) = rw (reads_all h) (omega arith)
      go (no h) = rw (reads_none (omega arith)) (omega arith)

-- ---- one line more

pub push_place : (p : ℕ) (c : Copy) (x : Line) → c.count < p → pushed p c x ≡ record { lines = set c.lines c.count x; count = c.count + 1 }
push_place p c x h = rw (lt-ltb c.count p h)

-- ---- all lines

-- lines at the first of p places, and blank ones behind them
abbrev pub laid : ℕ → List Line → Copy
laid p xs = record { lines = xs ++ replicate (p - length xs) no_line; count = length xs }

module _ (p : ℕ) where
  none_laid : laid p [] ≡ record { lines = replicate p no_line; count = 0 }
  none_laid = ap (λ (n : ℕ). record { lines = replicate n no_line; count = 0 }) (sub-zero p)

  push_laid : (xs : List Line) (x : Line) → length xs < p → pushed p (laid p xs) x ≡ laid p (xs ++ (x ∷ []))
  push_laid xs x h =
      push_place p (laid p xs) x h ∙ λ i. record { lines = at_seam i; count = sym one_more i }
    where
      one_more : length (xs ++ (x ∷ [])) ≡ length xs + 1
      one_more = length-append xs (x ∷ [])

      gap : p - length xs ≡ suc (p - (length xs + 1))
      gap = omega arith

      at_seam : set (xs ++ replicate (p - length xs) no_line) (length xs) x ≡ xs ++ (x ∷ []) ++ replicate (p - length (xs ++ (x ∷ []))) no_line
      at_seam =
          rw gap (set-append_seam xs no_line (replicate (p - (length xs + 1)) no_line) x)
          ∙ sym (append_snoc xs x (replicate (p - (length xs + 1)) no_line))
          ∙ ap (λ (n : ℕ). xs ++ (x ∷ []) ++ replicate (p - n) no_line) (sym one_more)

  push_all : (ys xs : List Line) → length xs + length ys ≤ p → foldl (pushed p) (laid p xs) ys ≡ laid p (xs ++ ys)
  push_all [] xs h = ap (laid p) (sym (append-nil xs))
  push_all (y ∷ ys) xs h =
      ap (λ (c : Copy). foldl (pushed p) c ys) (push_laid xs y (omega arith))
      ∙ push_all ys (xs ++ (y ∷ [])) (simp length-append (omega arith))
      ∙ ap (laid p) (append_snoc xs y ys)

  -- lines that have a place each are copied
  pub copy_few : (xs : List Line) → length xs ≤ p → copy p xs ≡ laid p xs
  copy_few xs h =
      let z : length xs - length xs ≡ 0 = omega arith in
      rw (reads_all p (length xs) h, z, take-length xs) (ap (λ (c : Copy). foldl (pushed p) c xs) (sym none_laid) ∙ push_all xs [] (omega arith))

  -- of others the count
  pub copy_many : (xs : List Line) → p < length xs → copy p xs ≡ record { lines = replicate p no_line; count = length xs }
  copy_many xs h =
      let z : length xs - 0 ≡ length xs = omega arith in
      rw (reads_none p (length xs) h, z)

-- ---- as a list

-- a copy that is kept in a list is the copy, kept in a list
module _ (p : ℕ) where
  copied_from : (xs : List Line) (c : Copy) → foldl (pushed_of p) (as_list p c) xs ≡ as_list p (foldl (pushed p) c xs)
  copied_from [] c = refl
  copied_from (x ∷ xs) c = copied_from xs (pushed p c x)

  pub copied_list : (xs : List Line) → foldl (pushed_of p) (as_list p (begun p (length xs))) (take (lines_read p (length xs)) xs) ≡ as_list p (copy p xs)
  copied_list xs = copied_from (take (lines_read p (length xs)) xs) (begun p (length xs))

-- up to 32 lines are laid out as a table is kept; of more there is the count
table_few : (xs : List Line) → length xs ≤ places → as_list places (copy places xs) ≡ packed xs
unfolding packed
table_few xs h = ap (as_list places) (copy_few places xs h)

table_many : (xs : List Line) → places < length xs → as_list places (copy places xs) ≡ record { lines = replicate places no_line; count = length xs }
table_many xs h = ap (as_list places) (copy_many places xs h)

module _ (xs : List Line) where
  pub copied_count : (as_list places (copy places xs)).count ≡ length xs
  copied_count = go (dec_le (length xs) places)
    where
      go : Dec (length xs ≤ places) → (as_list places (copy places xs)).count ≡ length xs
      go (yes h) = ap (λ (t : TaskTable). t.count) (table_few xs h) ∙ count_packed xs
      go (no h) = ap (λ (t : TaskTable). t.count) (table_many xs (omega arith))

  pub copied_places : length (as_list places (copy places xs)).lines ≡ places
  copied_places = go (dec_le (length xs) places)
    where
      go : Dec (length xs ≤ places) → length (as_list places (copy places xs)).lines ≡ places
      go (yes h) = ap (λ (t : TaskTable). length t.lines) (table_few xs h) ∙ packed_length xs h
      go (no h) = ap (λ (t : TaskTable). length t.lines) (table_many xs (omega arith))

  pub copied_lines : length xs ≤ places → lines_in (as_list places (copy places xs)) ≡ xs
  copied_lines h = ap lines_in (table_few xs h) ∙ kept_lines xs
