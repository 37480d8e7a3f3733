-- `State::report_end` meets its contract. Assumes nothing.
use Rattle.scheduler.proofs.State.report_end.Goals as goal

pub returns : goal.returns
returns c = (rw (c.count_ended.ensures, c.report-late.ensures.0, c.response.ensures, c.first-job.ensures), c.report-late.ensures.1)
