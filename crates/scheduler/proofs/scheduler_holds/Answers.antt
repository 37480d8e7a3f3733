-- `scheduler::scheduler_holds` meets its contract: the claims are proved. Assumes nothing.
use Rattle.scheduler.proofs.Claims.{the_claims}
use Rattle.scheduler.proofs.scheduler_holds.Goals as goal

pub returns : goal.returns
returns c = the_claims
