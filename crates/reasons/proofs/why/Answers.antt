-- `reasons::why` meets its contract. Assumes nothing.
use mathlib.Core.Path.{◌∙◌}
use Rattle.print.proofs.Texts.{then, as_text}
use Rattle.rules.specs.Print.{spaced}
use Rattle.rules.specs.WhyPrint.{why_words}
use Rattle.reasons.proofs.Parts.{in_front, line_words}
use Rattle.reasons.proofs.why.Goals as goal

pub returns : goal.returns
returns c =
    let a = c.args in
    as_text (in_front a.task (spaced (why_words a.answer)) ∙ line_words a.task a.answer) (then c.named.ensures c.told.ensures)
