-- `jobs::late_step` meets its contract. Assumes nothing.
use mathlib.Core.Path.{sym, ◌∙◌}
use Rattle.jobs.proofs.Lates.{step_before, step_now}
use Rattle.jobs.proofs.late_step.Goals as goal

pub returns-then-is_past : goal.returns-then-is_past
returns-then-is_past c =
    let a = c.args in
    sym (step_before a.last a.late a.job (sym c.is_past.ensures ∙ c.if-is_past.true))

pub returns : goal.returns
returns c =
    let a = c.args in
    sym (step_now a.last a.late a.job (sym c.is_past.ensures ∙ c.if-is_past.false))
