-- `head::head_holds` meets its contract: the claims are proved. Assumes nothing.
use Rattle.head.proofs.Claims.{the_claims}
use Rattle.head.proofs.head_holds.Goals as goal

pub returns : goal.returns
returns c = the_claims
