-- `print::Page::table_line` meets its contract. Assumes nothing.
use Rattle.print.proofs.Texts.{then}
use Rattle.print.proofs.Page.table_line.Goals as goal

pub returns : goal.returns
returns c = then c.verdict.ensures c.byte.ensures
