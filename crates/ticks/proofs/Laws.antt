-- Laws of ticks: what the sum is within reach and past it, and what a response is. Assumes nothing.
use Prim.Native.Nat.{ℕ, suc, ◌+◌, ◌<◌, ◌≤◌, min}
use mathlib.Core.Path.{◌≡◌, ap, sym, ◌∙◌}
use native.Mathlib.Omega.{arith}
use native.Mathlib.Decide.{dec_le}
use borrow.Author.Tests.{lt-ltb}
use Rattle.rules.specs.declared.Tick.{Tick}
use Rattle.rules.specs.declared.Span.{Span}
use Rattle.rules.specs.Table.{greatest, plus}
use Rattle.ticks.specs.Ticks.{sum, is_beyond}

abbrev pub tick_at : ℕ → Tick
tick_at n = record { 0 = n }

-- within reach it is the sum
pub sum_near : (t : Tick) (d : Span) → (plus t d).0 ≤ greatest.0 → sum t d ≡ plus t d
unfolding sum
sum_near t d h =
    let e : min (t.0 + d.0) (suc greatest.0) ≡ t.0 + d.0 = omega arith in
    ap tick_at e

-- past it, the tick after the greatest
pub sum_far : (t : Tick) (d : Span) → greatest.0 < (plus t d).0 → sum t d ≡ tick_at (suc greatest.0)
unfolding sum
sum_far t d h =
    let e : min (t.0 + d.0) (suc greatest.0) ≡ suc greatest.0 = omega arith in
    ap tick_at e

-- so the sum is beyond exactly where t + D is
pub sum_beyond : (t : Tick) (d : Span) → is_beyond (sum t d) ≡ is_beyond (plus t d)
sum_beyond t d = go (dec_le (plus t d).0 greatest.0)
  where
    go : Dec ((plus t d).0 ≤ greatest.0) → is_beyond (sum t d) ≡ is_beyond (plus t d)
    go (yes h) = ap is_beyond (sum_near t d h)
    go (no h) =
        let far : greatest.0 < (plus t d).0 = omega arith in
        ap is_beyond (sum_far t d far) ∙ lt-ltb greatest.0 (suc greatest.0) (omega arith) ∙ sym (lt-ltb greatest.0 (plus t d).0 far)
