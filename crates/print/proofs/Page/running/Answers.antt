-- `print::Page::running` meets its contract. Assumes nothing.
use Rattle.print.proofs.Texts.{as_text}
use Rattle.rules.specs.Print.{spaced}
use Rattle.print.specs.Buffers.{choice_text}
use mathlib.Core.Path.{sym, ap}
use Rattle.print.proofs.Page.running.Goals as goal

pub returns-in-None : goal.returns-in-None
unfolding spaced
returns-in-None c = as_text (sym (ap choice_text c.in-None.is)) c.words.ensures

pub returns-in-Some : goal.returns-in-Some
unfolding spaced
returns-in-Some c = as_text (sym (ap choice_text c.in-Some.is)) c.two.ensures
