-- `ticks::plus` meets its contract. Assumes nothing.
use Prim.Native.Nat.{suc, ◌+◌, min}
use mathlib.Core.Path.{◌≡◌, ap}
use native.Mathlib.Omega.{arith}
use Rattle.rules.specs.Table.{greatest}
use Rattle.ticks.specs.Ticks.{sum}
use Rattle.ticks.proofs.Laws.{tick_at}
use Rattle.ticks.proofs.plus.Goals as goal

pub returns : goal.returns
unfolding sum
returns c =
    let e : c.min.result ≡ min (c.args.at.0 + c.args.deadline.0) (suc greatest.0) = omega arith in
    ap tick_at e
