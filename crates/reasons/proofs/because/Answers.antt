-- `reasons::because` meets its contract. Assumes nothing.
use mathlib.Core.Path.{sym, ap, ◌∙◌}
use Rattle.print.proofs.Texts.{as_text}
use Rattle.rules.specs.declared.Reason.{Reason}
use Rattle.rules.specs.Print.{spaced}
use Rattle.rules.specs.WhyPrint.{reason_words}
use Rattle.reasons.proofs.Parts.{none_words, runs_words, earlier_words, there_words}
use Rattle.reasons.proofs.because.Goals as goal

pub returns-in-NonePending : goal.returns-in-NonePending
returns-in-NonePending c = as_text (none_words ∙ sym (ap (λ (r : Reason). spaced (reason_words r)) c.in-NonePending.is)) c.words.ensures

pub returns-in-ItRuns : goal.returns-in-ItRuns
returns-in-ItRuns c = as_text (runs_words ∙ sym (ap (λ (r : Reason). spaced (reason_words r)) c.in-ItRuns.is)) c.words-in-ItRuns.ensures

pub returns-in-Earlier : goal.returns-in-Earlier
returns-in-Earlier c =
    let g = c.in-Earlier in
    as_text (earlier_words g.task g.due ∙ sym (ap (λ (r : Reason). spaced (reason_words r)) g.is)) c.waits.ensures

pub returns-in-ThereFirst : goal.returns-in-ThereFirst
returns-in-ThereFirst c =
    let g = c.in-ThereFirst in
    as_text (there_words g.task g.due ∙ sym (ap (λ (r : Reason). spaced (reason_words r)) g.is)) c.waits-in-ThereFirst.ensures
