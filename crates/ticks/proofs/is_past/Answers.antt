-- `ticks::is_past` meets its contract. Assumes nothing.
use Rattle.std.proofs.Common.{arith}
use Rattle.std.proofs.lemmas.Grind.{common_steps}
use Rattle.rules.specs.Late.{is_past}
use Rattle.ticks.proofs.is_past.Goals as goal

pub returns : goal.returns
unfolding is_past
returns c = grind (arith, common_steps)
