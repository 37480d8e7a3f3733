-- One line after the other, for each task of a state's table. Assumes nothing.
use Prim.Native.Nat.{ℕ, zero, suc, ◌+◌, ◌≤◌}
use mathlib.Core.Path.{◌≡◌, refl, sym, ap, ◌∙◌, subst}
use mathlib.Core.List.{List, [], ◌++◌, append-nil, append_assoc}
use native.Mathlib.Omega.{arith}
use Rattle.rules.specs.Table.{Table, size}
use Rattle.rules.specs.Layer.{Board}
use Rattle.rules.specs.Run.{Head, Reached}
use Rattle.rules.specs.Print.{ended}
use Rattle.rules.specs.Why.{why}
use Rattle.rules.specs.WhyPrint.{why_text, why_lines_from}
use Rattle.rules.proofs.Reached.{reached_keeps}
use Rattle.table.specs.Lines.{packed}
use Rattle.scheduler.specs.declared.State.{State}
use Rattle.scheduler.specs.State.{state_of, table_of, Handed}
use Rattle.scheduler.proofs.Back.{table_back}
use Rattle.scheduler.proofs.Handed.{handed_by}

-- ---- the lines

module _ (T : Table) (b : Board) where
  abbrev pub line_for : ℕ → List ℕ
  line_for n = ended (why_text n (why T b n))

  -- one more stands behind those so far
  next_from : (m k : ℕ) → why_lines_from T b m (suc k) ≡ why_lines_from T b m k ++ line_for (m + k)
  unfolding why_lines_from
  next_from m zero = append-nil (line_for m) ∙ ap line_for (let e : m ≡ m + 0 = omega arith in e)
  next_from m (suc k) =
      ap (λ (s : List ℕ). line_for m ++ s) (next_from (suc m) k ∙ ap (λ n. why_lines_from T b (suc m) k ++ line_for n) (let e : suc m + k ≡ m + suc k = omega arith in e))
      ∙ sym (append_assoc (line_for m) (why_lines_from T b (suc m) k) (line_for (m + suc k)))

  pub one_more : (k : ℕ) → why_lines_from T b 0 k ++ line_for k ≡ why_lines_from T b 0 (k + 1)
  one_more k =
      let e : 0 + k ≡ k = omega arith in
      let f : suc k ≡ k + 1 = omega arith in
      sym (next_from 0 k ∙ ap (λ n. why_lines_from T b 0 k ++ line_for n) e) ∙ ap (why_lines_from T b 0) f

  pub no_line : [] ≡ why_lines_from T b 0 0
  unfolding why_lines_from
  no_line = refl

-- ---- the table that a state keeps

counted : (T : Table) (h : Head) → size T ≡ (state_of T h).table.count
unfolding state_of packed
counted T h = refl

pub kept_size : (s : State) → Handed s → size (table_of s) ≡ s.table.count
kept_size = handed_by (λ (s : State). size (table_of s) ≡ s.table.count) is
  where
    is : (T : Table) (h : Head) → Reached T h → size (table_of (state_of T h)) ≡ (state_of T h).table.count
    is T h r = ap size (table_back T h) ∙ counted T h

pub few_lines : (s : State) → Handed s → s.table.count ≤ 32
few_lines = handed_by (λ (s : State). s.table.count ≤ 32) few
  where
    few : (T : Table) (h : Head) → Reached T h → (state_of T h).table.count ≤ 32
    few T h r = subst (λ n. n ≤ 32) (counted T h) (reached_keeps T h r).passes.counted.1
