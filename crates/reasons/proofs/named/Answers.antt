-- `reasons::named` meets its contract. Assumes nothing.
use Rattle.print.proofs.Texts.{then}
use Rattle.reasons.proofs.named.Goals as goal

pub returns : goal.returns
returns c = then c.words.ensures (then c.number.ensures c.byte.ensures)
