-- `scheduler::fresh` meets its contract. Assumes nothing.
use Rattle.scheduler.proofs.fresh.Goals as goal

pub returns : goal.returns
returns c = rw (c.none.ensures, c.empty.ensures)
