-- `JobList::pending_from` meets its contract. Assumes nothing.
use Rattle.jobs.proofs.Scans.{pending_law}
use Rattle.jobs.proofs.JobList.pending_from.Goals as goal

pub returns : goal.returns
returns c = rw (c.count_of.ensures, c.pending.ensures) (pending_law c.args.task _)
