-- `play::lines` meets its contract. Assumes nothing.
use Rattle.play.specs.Run.{Kept}
use Rattle.play.proofs.lines.Given as goal

abbrev pub invariant-loop-line : goal.invariant-loop-line
invariant-loop-line l = Kept l.run
