use Prim.Native.Nat.{◌+◌, ◌-◌, ◌≤◌}
use lib.ListN.{length}
use Rattle.scheduler.specs.State.{Handed}
use Rattle.transcript.specs.Pieces.{buffer_room, line_most}
use Rattle.transcript.proofs.write.Given as goal

abbrev pub invariant-loop-page : goal.invariant-loop-page
invariant-loop-page l = Handed l.run.state × (l.page.len + line_most ≤ buffer_room)

abbrev pub decreases-loop-page : goal.decreases-loop-page
decreases-loop-page l = length l.tape - l.run.at
