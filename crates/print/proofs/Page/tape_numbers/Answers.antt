-- `print::Page::tape_numbers` meets its contract. Assumes nothing.
use Rattle.print.proofs.Texts.{then}
use Rattle.rules.specs.Print.{spaced, tape_text}
use Rattle.print.proofs.Page.tape_numbers.Goals as goal

pub returns : goal.returns
unfolding spaced tape_text
returns c =
    then (then c.words.ensures (then c.number.ensures (then c.words-2.ensures c.number-2.ensures))) c.byte.ensures
