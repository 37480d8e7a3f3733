-- `head::placed_jobs` meets its contract. Assumes nothing.
use Rattle.head.specs.Placed.{placed_job}
use Rattle.head.proofs.Copies.{Copied}
use Rattle.head.proofs.placed_jobs.Given as goal

abbrev pub invariant-loop-i : goal.invariant-loop-i
invariant-loop-i l = Copied placed_job l.jobs l.initial.out l.i l.out
