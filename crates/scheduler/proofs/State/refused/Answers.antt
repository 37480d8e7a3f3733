-- `State::refused` meets its contract. Assumes nothing.
use Rattle.scheduler.specs.Steps.{refused_of}
use Rattle.scheduler.proofs.State.refused.Goals as goal

pub returns : goal.returns
unfolding refused_of
returns c = rw (c.from.ensures, c.running.ensures, c.none_late.ensures)
