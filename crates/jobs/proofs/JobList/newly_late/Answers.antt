-- `JobList::newly_late` meets its contract. Assumes nothing.
use mathlib.Core.Path.{sym, ◌∙◌}
use native.Mathlib.Omega.{arith}
use Rattle.jobs.proofs.Lates.{late_empty, late_stop}
use Rattle.jobs.proofs.JobList.newly_late.Goals as goal

pub returns-then-self-eq0 : goal.returns-then-self-eq0
returns-then-self-eq0 c =
    let a = c.args in
    c.none_late.ensures ∙ sym (late_empty a.last a.at a.self.now c.if-self-eq0.true)

pub returns : goal.returns
returns c =
    let a = c.args in
    let some_one = c.if-self-eq0.false in
    c.none_late-2.ensures
    ∙ sym (late_stop a.last a.at a.self.now c.requires.0 c.requires.1 (omega arith) (sym c.is_past.ensures ∙ c.if-is_past.false))
