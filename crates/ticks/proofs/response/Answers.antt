-- `ticks::response` meets its contract. Assumes nothing.
use native.Mathlib.Omega.{arith}
use Rattle.ticks.specs.Ticks.{response_by}
use Rattle.ticks.proofs.response.Goals as goal

pub returns-then-due-at : goal.returns-then-due-at
unfolding response_by
returns-then-due-at c = omega arith

pub returns : goal.returns
unfolding response_by
returns c = omega arith
