-- `JobList::first_of` meets its contract. Assumes nothing.
use Rattle.jobs.proofs.Scans.{own_law}
use Rattle.jobs.proofs.JobList.first_of.Goals as goal

pub returns : goal.returns
returns c = rw (c.find_of.ensures, c.pending.ensures) (own_law c.args.task _)
