-- `kernel::better` meets its contract. Assumes nothing.
use mathlib.Core.Path.{sym, ap, ◌∙◌}
use Rattle.rules.specs.declared.Line.{Line}
use Rattle.kernel.proofs.Laws.{better_delayed, better_taken, better_left}
use Rattle.kernel.proofs.better.Goals as goal

pub returns-in-Delayed : goal.returns-in-Delayed
returns-in-Delayed c =
    let a = c.args in
    better_delayed a.table.lines a.at a.best a.job c.in-Delayed.is

pub returns-then-takes_over : goal.returns-then-takes_over
returns-then-takes_over c =
    let a = c.args in
    let p = ap (λ (x : Line). x.priority) c.line_of-line.ensures in
    better_taken a.table.lines a.at a.best a.job _ c.in-Released.is p (sym c.takes_over.ensures ∙ c.if-takes_over.true)

pub returns-else-takes_over : goal.returns-else-takes_over
returns-else-takes_over c =
    let a = c.args in
    let p = ap (λ (x : Line). x.priority) c.line_of-line.ensures in
    better_left a.table.lines a.at a.best a.job _ c.in-Released.is p (sym c.takes_over.ensures ∙ c.if-takes_over.false)
