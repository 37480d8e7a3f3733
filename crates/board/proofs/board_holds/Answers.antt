-- `board::board_holds` meets its contract: the claims are proved. Assumes nothing.
use Rattle.board.proofs.Claims.{the_claims}
use Rattle.board.proofs.board_holds.Goals as goal

pub returns : goal.returns
returns c = the_claims
