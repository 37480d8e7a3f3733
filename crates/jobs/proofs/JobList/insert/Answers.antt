-- `JobList::insert` meets its contract. Assumes nothing.
use Rattle.jobs.proofs.Changes.{insert_law}
use Rattle.jobs.proofs.JobList.insert.Goals as goal

pub returns : goal.returns
returns c = rw c.enter.ensures (insert_law c.args.self.now c.requires.0 c.args.job c.requires.2)
