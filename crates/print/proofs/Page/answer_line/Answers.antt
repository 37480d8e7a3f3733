-- `print::Page::answer_line` meets its contract. Assumes nothing.
use Rattle.print.proofs.Texts.{then}
use Rattle.print.proofs.Page.answer_line.Goals as goal

pub returns : goal.returns
returns c = then c.answer.ensures c.byte.ensures
