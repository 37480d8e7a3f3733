-- `JobList::empty` meets its contract. Assumes nothing.
use mathlib.Core.Path.{ap}
use lib.ListN.{replicate}
use Rattle.rules.specs.declared.Job.{Job}
use Rattle.jobs.specs.declared.JobList.{JobList}
use Rattle.jobs.specs.Listed.{pack}
use Rattle.jobs.proofs.JobList.empty.Goals as goal

abbrev filled : Job → JobList
filled x = record { jobs = replicate 32 x; count = 0 }

pub returns : goal.returns
unfolding pack
returns c = ap filled c.blank.ensures
