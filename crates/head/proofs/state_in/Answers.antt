-- `head::state_in` meets its contract. Assumes nothing.
use Rattle.head.specs.Placed.{state_in}
use Rattle.head.proofs.state_in.Goals as goal

pub returns : goal.returns
unfolding state_in
returns c = rw c.requires
