-- `head::jobs_in` meets its contract. Assumes nothing.
use Rattle.head.specs.Placed.{job_in}
use Rattle.head.proofs.Copies.{Copied}
use Rattle.head.proofs.jobs_in.Given as goal

abbrev pub invariant-loop-i : goal.invariant-loop-i
invariant-loop-i l = Copied job_in l.jobs l.initial.out l.i l.out
