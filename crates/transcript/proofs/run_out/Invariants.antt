use Prim.Native.Nat.{◌-◌}
use mathlib.Core.Path.{◌≡◌}
use lib.ListN.{length}
use Rattle.scheduler.specs.State.{Handed}
use Rattle.transcript.specs.Pieces.{ran_of}
use Rattle.transcript.proofs.run_out.Given as goal

-- what is left to run from here is what was left from the start
abbrev pub invariant-loop-call : goal.invariant-loop-call
invariant-loop-call l = Handed l.run.state × (ran_of l.tape l.run ≡ ran_of l.tape l.initial.run)

abbrev pub decreases-loop-call : goal.decreases-loop-call
decreases-loop-call l = length l.tape - l.run.at
