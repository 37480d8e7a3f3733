-- `JobList::late_from` meets its contract. Assumes nothing.
use mathlib.Core.Path.{◌≡◌}
use Prim.Native.Nat.{◌≤◌}
use lib.ListN.{drop}
use Rattle.jobs.specs.Listed.{view}
use Rattle.jobs.proofs.Lates.{late_scan}
use Rattle.jobs.proofs.JobList.late_from.Given as goal

abbrev pub invariant-loop-job : goal.invariant-loop-job
invariant-loop-job l = record {
  few : l.late.count ≤ l.job-index;
  turns : late_scan l.last l.at l.late (drop l.job-index (view l.fn.self)) ≡ late_scan l.last l.at l.initial.late (view l.fn.self);
}
