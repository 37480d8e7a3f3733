-- `print::Page::verdict` meets its contract. Assumes nothing.
use Rattle.print.proofs.Texts.{then}
use Rattle.rules.specs.Print.{spaced, table_text}
use Rattle.print.proofs.Page.verdict.Goals as goal

pub returns : goal.returns
unfolding spaced table_text
returns c =
    then c.words.ensures (then c.number.ensures (then c.byte.ensures c.lines_named.ensures))
