-- `scheduler::why` meets its contract. Assumes nothing.
use mathlib.Core.Path.{◌≡◌, sym, ap, ◌∙◌}
use Rattle.std.specs.Prelude.{Ok}
use Rattle.std.proofs.lemmas.Result.{err_from_is_err_and}
use Rattle.rules.specs.Words.{only}
use Rattle.jobs.specs.Listed.{view, is_of, lead_of}
use Rattle.scheduler.specs.Steps.{reason_of}
use Rattle.scheduler.proofs.Handed.{handed_shaped}
use Rattle.scheduler.proofs.Waits.{refused_why, given_why}
use Rattle.scheduler.proofs.why.Goals as goal

pub returns-in_err-known : goal.returns-in_err-known
returns-in_err-known c =
    let p = err_from_is_err_and c.from_residual.result c.from_residual.ensures.1 in
    rw (p.1, p.2) (refused_why c.args.s c.requires c.args.task _ (sym c.known.ensures ∙ c.in_err-known.was))

pub first_of-asked-requires : goal.first_of-asked-requires
first_of-asked-requires c = handed_shaped c.args.s c.requires

pub returns : goal.returns
returns c =
    let own : c.first_of-asked.result ≡ lead_of (only (is_of c.args.task) (view c.args.s.list)) = c.first_of-asked.ensures in
    let first : c.front-runs.result ≡ lead_of (view c.args.s.list) = c.front-runs.ensures in
    ap Ok (c.reason.ensures ∙ (λ i. reason_of c.args.task (own i) (first i))) ∙ given_why c.args.s c.requires c.args.task (sym c.known.ensures ∙ c.in_ok-known.was)
