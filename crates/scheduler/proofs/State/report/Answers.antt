-- `State::report` meets its contract. Assumes nothing.
use Rattle.scheduler.specs.Steps.{late_counted}
use Rattle.scheduler.proofs.State.report.Goals as goal

pub returns : goal.returns
unfolding late_counted
returns c = (rw (c.count_late.ensures, c.newly_late-late.ensures), c.newly_late-late.ensures)
