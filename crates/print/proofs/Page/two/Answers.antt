-- `print::Page::two` meets its contract. Assumes nothing.
use Rattle.print.proofs.Texts.{then}
use Rattle.rules.specs.Print.{spaced}
use Rattle.print.proofs.Page.two.Goals as goal

pub returns : goal.returns
unfolding spaced
returns c = then c.number.ensures (then c.byte.ensures c.number-2.ensures)
