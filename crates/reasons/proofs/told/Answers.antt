-- `reasons::told` meets its contract. Assumes nothing.
use mathlib.Core.Path.{sym, ap, ◌∙◌}
use Rattle.std.specs.Prelude.{Result}
use Rattle.print.proofs.Texts.{as_text}
use Rattle.rules.specs.declared.Reason.{Reason}
use Rattle.rules.specs.declared.CallRefusal.{CallRefusal}
use Rattle.rules.specs.Answers.{call_number}
use Rattle.rules.specs.Print.{spaced}
use Rattle.rules.specs.WhyPrint.{why_words}
use Rattle.reasons.specs.Words.{refused_text}
use Rattle.reasons.proofs.Parts.{refused_words}
use Rattle.reasons.proofs.told.Goals as goal

pub returns-in-Ok : goal.returns-in-Ok
returns-in-Ok c = as_text (sym (ap (λ (w : Result Reason CallRefusal). spaced (why_words w)) c.in-Ok.is)) c.because.ensures

pub returns-in-Err : goal.returns-in-Err
returns-in-Err c =
    let g = c.in-Err in
    as_text
    (ap (λ k. refused_text k) c.from.ensures ∙ refused_words (call_number g.refusal) ∙ sym (ap (λ (w : Result Reason CallRefusal). spaced (why_words w)) g.is))
    c.refused.ensures
