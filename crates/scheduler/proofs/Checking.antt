-- What the check hands out. Assumes nothing.
use Prim.Native.Nat.{ℕ, zero, suc, ◌≤◌}
use mathlib.Core.Path.{◌≡◌, refl, sym, ap, ◌∙◌, subst⁻¹}
use mathlib.Core.List.{[]}
use native.Mathlib.Omega.{arith}
use lib.ListN.{length}
use Rattle.rules.specs.declared.Verdict.{Verdict}
use Rattle.rules.specs.Words.{unless, places}
use Rattle.rules.specs.Table.{Table, check}
use Rattle.rules.specs.Run.{fresh_head}
use Rattle.rules.proofs.Checked.{keeps_found, found_keeps}
use Rattle.rules.proofs.Reached.{reached_fresh}
use Rattle.table.specs.Lines.{TaskTable}
use Rattle.table.specs.Lines.{packed, lines_in, given}
use Rattle.table.proofs.Laws.{given_size, given_few}
use Rattle.scheduler.specs.declared.State.{State}
use Rattle.scheduler.specs.declared.Checked.{Checked}
use Rattle.scheduler.specs.State.{state_of, checked_of, Handed, HandedOut}
use Rattle.scheduler.specs.Steps.{fresh_of}

abbrev no_lines : Table
no_lines = record { lines = [] }

-- a fresh state keeps its table and a fresh head
fresh_is : (T : Table) → fresh_of (packed T.lines) ≡ state_of T fresh_head
unfolding state_of
fresh_is T = refl

-- a fresh state of an accepted table is handed out
pub fresh_handed : (T : Table) → (check T).number ≡ 0 → Handed (state_of T fresh_head)
fresh_handed T z = record { table = T; head = fresh_head; reached = reached_fresh T (found_keeps T (keeps_found T z)); is = refl }

refused_table : (k : ℕ) (T U : Table) → (k ≡ 0 → ⊥) → unless k T U ≡ T
refused_table zero T U n = absurd (n refl)
refused_table (suc k) T U n = refl

module _ (g : TaskTable) (v : Verdict) (e : v ≡ check (given g)) where
  number_is : v.number ≡ (check (given g)).number
  number_is = ap (λ (z : Verdict). z.number) e

  -- an accepted table's lines are those that were copied
  pub checked_few : length g.lines ≡ places → v.number ≡ 0 → g.count ≤ places
  checked_few n z =
      let k = keeps_found (given g) (sym number_is ∙ z) in
      omega (arith, k.passes.counted.1, given_size g n)

  pub checked_lines : length g.lines ≡ places → v.number ≡ 0 → packed (lines_in g) ≡ packed (given g).lines
  checked_lines n z = ap packed (sym (given_few g n (checked_few n z)))

  module _ (s : State) (t : TaskTable) (f : s ≡ fresh_of t) where
    abbrev made : Checked
    made = record { state = s; verdict = v }

    -- a refused table: the empty state of no lines
    pub checked_refused : t ≡ packed [] → (v.number ≡ 0 → ⊥) → (made ≡ checked_of g) × HandedOut made
    unfolding checked_of
    checked_refused p n =
        let q : s ≡ state_of (unless (check (given g)).number no_lines (given g)) fresh_head =
        f ∙ ap fresh_of p ∙ fresh_is no_lines ∙ ap (λ (T : Table). state_of T fresh_head) (sym (refused_table _ no_lines (given g) (λ z. n (number_is ∙ z)))) in
        (λ i. record { state = q i; verdict = e i }, λ z. absurd (n z))

    -- an accepted one: its fresh state, handed out
    pub checked_accepted : t ≡ packed (given g).lines → v.number ≡ 0 → (made ≡ checked_of g) × HandedOut made
    unfolding checked_of
    checked_accepted p z =
        let w : (check (given g)).number ≡ 0 = sym number_is ∙ z in
        let h : s ≡ state_of (given g) fresh_head = f ∙ ap fresh_of p ∙ fresh_is (given g) in
        let q : s ≡ state_of (unless (check (given g)).number no_lines (given g)) fresh_head =
        h ∙ ap (λ k. state_of (unless k no_lines (given g)) fresh_head) (sym w) in
        (λ i. record { state = q i; verdict = e i }, λ y. subst⁻¹ Handed h (fresh_handed (given g) w))
