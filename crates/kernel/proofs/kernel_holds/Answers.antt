-- `kernel::kernel_holds` meets its contract: the claims are proved. Assumes nothing.
use Rattle.kernel.proofs.Claims.{the_claims}
use Rattle.kernel.proofs.kernel_holds.Goals as goal

pub returns : goal.returns
returns c = the_claims
