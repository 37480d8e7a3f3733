-- One outcome of the promises of the pieces. Assumes nothing.
use Rattle.rules.proofs.Outcome.{only}
use Rattle.print.proofs.Texts.{one_page}
use Rattle.transcript.specs.Claims.{OneOpened, OnePut, OneLined}

pub one_opened : OneOpened
one_opened tape r r' p q = only p.0 q.0

pub one_put : OnePut
one_put old at t r r' new new' p q = (only p.place q.place, only p.is q.is)

pub one_lined : OneLined
one_lined tape x old at r r' page page' p q = (only p.run q.run, one_page page page' p.line q.line)
