-- `head::placed_with` meets its contract. Assumes nothing.
use Rattle.head.specs.Placed.{placed}
use Rattle.head.proofs.placed_with.Goals as goal

pub returns : goal.returns
unfolding placed
returns c = rw c.requires
