-- `reasons::text` meets its contract. Assumes nothing.
use mathlib.Core.Path.{sym, ap, ◌∙◌}
use Rattle.print.proofs.Texts.{then, as_text}
use Rattle.rules.specs.Print.{opening_text}
use Rattle.reasons.proofs.Whole.{accepted_text, refused_text}
use Rattle.reasons.proofs.text.Goals as goal

pub returns-in_default : goal.returns-in_default
returns-in_default c =
    as_text (ap opening_text c.in_default.is ∙ refused_text c.args.tape.now _ (sym c.in_default.is ∙ c.open-opened.ensures.0)) c.open_line.ensures

pub returns : goal.returns
returns c =
    as_text
    (accepted_text c.args.tape.now c.in-Ok.run' (sym c.in-Ok.is ∙ c.open-opened.ensures.0) c.run_out-ran.result c.run_out-ran.ensures.0)
    (then c.lines.ensures c.halt_line.ensures)
