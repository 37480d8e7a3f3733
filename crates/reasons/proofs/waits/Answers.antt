-- `reasons::waits` meets its contract. Assumes nothing.
use Rattle.print.proofs.Texts.{then}
use Rattle.reasons.proofs.waits.Goals as goal

pub returns : goal.returns
returns c = then c.words.ensures (then c.number.ensures (then c.words-2.ensures c.number-2.ensures))
