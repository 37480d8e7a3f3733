-- `reasons::reasons_hold` meets its contract. Assumes nothing.
use Rattle.reasons.proofs.Claims.{the_claims}
use Rattle.reasons.proofs.reasons_hold.Goals as goal

pub returns : goal.returns
returns c = the_claims
