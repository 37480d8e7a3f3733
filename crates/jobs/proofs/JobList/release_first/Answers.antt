-- `JobList::release_first` meets its contract. Assumes nothing.
use borrow.Author.Tests.{lt-ltb, le-ltb}
use Rattle.jobs.specs.Inside.{led}
use Rattle.jobs.proofs.JobList.release_first.Goals as goal

pub returns-then-self-gt0 : goal.returns-then-self-gt0
unfolding led
returns-then-self-gt0 c = (rw (c.release.ensures, lt-ltb 0 c.args.self.now.count c.if-self-gt0.true), c.front-first.ensures)

pub returns-else-self-gt0 : goal.returns-else-self-gt0
unfolding led
returns-else-self-gt0 c = (rw (le-ltb 0 c.args.self.now.count c.if-self-gt0.false), c.front-first.ensures)
