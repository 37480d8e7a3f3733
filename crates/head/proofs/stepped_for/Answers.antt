-- `head::stepped_for` meets its contract. Assumes nothing.
use Rattle.head.proofs.stepped_for.Goals as goal

pub returns : goal.returns
returns c = rw (c.placed_with.ensures, c.from.ensures)
