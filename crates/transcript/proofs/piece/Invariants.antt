use Prim.Native.Nat.{◌-◌}
use lib.ListN.{length}
use Rattle.transcript.proofs.Lines.{SoFar}
use Rattle.transcript.proofs.piece.Given as goal

abbrev pub invariant-loop-page : goal.invariant-loop-page
invariant-loop-page l = SoFar l.tape l.initial.run l.initial.page.bytes l.initial.page.len l.run l.page.len l.page.bytes

abbrev pub decreases-loop-page : goal.decreases-loop-page
decreases-loop-page l = length l.tape - l.run.at
