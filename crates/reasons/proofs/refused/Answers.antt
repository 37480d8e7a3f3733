-- `reasons::refused` meets its contract. Assumes nothing.
use Rattle.print.proofs.Texts.{then}
use Rattle.reasons.proofs.refused.Goals as goal

pub returns : goal.returns
returns c = then c.words.ensures c.number.ensures
