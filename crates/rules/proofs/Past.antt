-- The late rule `is_past`: the laws that the rest of the theory knows of it. A change of the rule is proved here, and nowhere else. Assumes nothing.
use Prim.Native.Nat.{ℕ, ◌<◌, ◌≤◌}
use mathlib.Core.Path.{◌≡◌, refl, ap, sym, ◌∙◌}
use mathlib.Core.Bool.{Bool, true, false, not, ◌&&◌, ◌||◌, and_comm}
use lib.Dec.{ltb, leb}
use native.Mathlib.Omega.{arith}
use borrow.Author.Tests.{leb-true, leb-false, lt-ltb, le-ltb, le-leb, lt-leb}
use Rattle.rules.specs.declared.Tick.{Tick}
use Rattle.rules.specs.Table.{Table, size, plus, deadline_of, Passes}
use Rattle.rules.specs.Late.{is_past}

-- what was past stays past
pub stays_past : (s t due : Tick) → s.0 ≤ t.0 → (is_past s due || is_past t due) ≡ is_past t due
unfolding is_past
stays_past s t due h = go (leb due.0 s.0) refl
  where
    go : (p : Bool) → leb due.0 s.0 ≡ p → (p || leb due.0 t.0) ≡ leb due.0 t.0
    go true e = let a = leb-true due.0 s.0 e in sym (le-leb due.0 t.0 (omega arith))
    go false e = refl

-- an accepted job is not past at its own call: a relative deadline is at least 1
pub not_past_yet : (T : Table) → Passes T → (t : Tick) (n : ℕ) → n < size T → false ≡ is_past t (plus t (deadline_of T n))
unfolding is_past
not_past_yet T p t n k = sym (lt-leb (plus t (deadline_of T n)).0 t.0 (omega (arith, (p.ranged n k).deadline.0)))

-- past at t, and not at s: the test without a mark
pub falls_late_lem : (s t due : Tick) → (is_past t due && not (is_past s due)) ≡ (ltb s.0 due.0 && leb due.0 t.0)
unfolding is_past
falls_late_lem s t due = and_comm (leb due.0 t.0) (not (leb due.0 s.0)) ∙ ap (λ z. z && leb due.0 t.0) (go (leb due.0 s.0) refl)
  where
    go : (p : Bool) → leb due.0 s.0 ≡ p → not p ≡ ltb s.0 due.0
    go true e = sym (le-ltb s.0 due.0 (leb-true due.0 s.0 e))
    go false e = sym (lt-ltb s.0 due.0 (leb-false due.0 s.0 e))

-- what is due no earlier is not past before it
pub past_later : (t due later : Tick) → due.0 ≤ later.0 → is_past t due ≡ false → is_past t later ≡ false
unfolding is_past
past_later t due later h e = let k = leb-false due.0 t.0 e in lt-leb later.0 t.0 (omega arith)
