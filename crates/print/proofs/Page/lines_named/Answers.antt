-- `print::Page::lines_named` meets its contract. Assumes nothing.
use Rattle.print.proofs.Texts.{as_text, then}
use Rattle.rules.specs.Print.{spaced}
use Rattle.print.specs.Buffers.{named_text}
use mathlib.Core.Path.{sym, ap}
use Rattle.print.proofs.Page.lines_named.Goals as goal

pub returns-in-NoneNamed : goal.returns-in-NoneNamed
unfolding spaced
returns-in-NoneNamed c = as_text (sym (ap named_text c.in-NoneNamed.is)) c.words.ensures

pub returns-in-TheLine : goal.returns-in-TheLine
unfolding spaced
returns-in-TheLine c = as_text (sym (ap named_text c.in-TheLine.is)) (then c.number.ensures c.words-in-TheLine.ensures)

pub returns-in-BothLines : goal.returns-in-BothLines
unfolding spaced
returns-in-BothLines c = as_text (sym (ap named_text c.in-BothLines.is)) c.two.ensures
