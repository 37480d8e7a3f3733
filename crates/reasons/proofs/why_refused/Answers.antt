-- `reasons::why_refused` meets its contract. Assumes nothing.
use mathlib.Core.Path.{◌∙◌}
use Rattle.print.proofs.Texts.{then, as_text}
use Rattle.reasons.specs.Words.{refused_text}
use Rattle.reasons.proofs.Parts.{in_front, numbered_words}
use Rattle.reasons.proofs.why_refused.Goals as goal

pub returns : goal.returns
returns c =
    let a = c.args in
    as_text (in_front a.task (refused_text a.number) ∙ numbered_words a.task a.number) (then c.named.ensures c.refused.ensures)
