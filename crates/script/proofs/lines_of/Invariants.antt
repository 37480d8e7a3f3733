-- `script::lines_of` meets its contract. Assumes nothing.
use Rattle.std.proofs.Common.{length}
use Rattle.script.proofs.lines_of.Given as goal

abbrev pub decreases-loop-rest : goal.decreases-loop-rest
decreases-loop-rest l = length l.rest
