-- `transcript::transcript_holds` meets its contract. Assumes nothing.
use Rattle.transcript.proofs.Claims.{claims}
use Rattle.transcript.proofs.transcript_holds.Goals as goal

pub returns : goal.returns
returns c = claims
