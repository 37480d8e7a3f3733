-- `print::Page::tape_line` meets its contract. Assumes nothing.
use mathlib.Core.Path.{ap}
use Rattle.print.proofs.Texts.{as_text}
use Rattle.rules.specs.Print.{ended, tape_text}
use Rattle.print.proofs.Page.tape_line.Goals as goal

pub returns : goal.returns
returns c = as_text (ap (λ k. ended (tape_text k c.args.halt.place)) c.from.ensures) c.tape_numbers.ensures
