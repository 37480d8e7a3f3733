-- `Monitor::count_late` meets its contract. Assumes nothing.
use mathlib.Core.Path.{◌≡◌, sym, ap, ◌∙◌}
use lib.ListN.{length, set, take, get_or, length-set}
use native.Mathlib.Omega.{arith}
use borrow.Author.Rules.{rules}
use Rattle.rules.specs.Counts.{late_more, on_task, with_late}
use Rattle.monitor.specs.declared.Monitor.{Monitor}
use Rattle.monitor.specs.Tallies.{counts}
use Rattle.monitor.proofs.Laws.{late_turn, late_end, take_least, on_none}
use Rattle.monitor.proofs.Monitor.count_late.Goals as goal
use Rattle.monitor.proofs.Monitor.count_late.Goals.{Joined-t-lt-PLACES, then-t-lt-PLACES, else-t-lt-PLACES}

-- whether the task has a place or not, the job there is counted for its task
counted : (c : Joined-t-lt-PLACES) → c.if-t-lt-PLACES.self.tallies ≡ on_task (get_or (take c.min-n.result c.args.late.tasks) c.loop-task.task-index 0) late_more c.loop-task.self.tallies
counted c =
    elim c.if-t-lt-PLACES.branch [
      | then-t-lt-PLACES w ↦ ap (λ (x : Monitor). x.tallies) w.self-is ∙ ap (set c.loop-task.self.tallies _) w.late_more.ensures
      | else-t-lt-PLACES w ↦ ap (λ (x : Monitor). x.tallies) w.self-is ∙ on_none _ late_more c.loop-task.self.tallies (omega arith)
    ]

pub loop-task-preserved : goal.loop-task-preserved
loop-task-preserved c =
    let l = c.loop-task in
    let e = counted (goal.at.loop-task-preserved c).Joined-t-lt-PLACES in
    record { all = ap length e ∙ simp length-set l.invariant.all; turns = rw e (late_turn _ l.self.tallies l.task-index c.loop-task-test.true ∙ l.invariant.turns) }

pub returns : goal.returns
returns c =
    let l = c.loop-task in
    let n : length c.args.late.tasks ≡ 32 = search rules in
    ap counts (sym (late_end _ l.self.tallies l.task-index c.loop-task-test.false) ∙ l.invariant.turns ∙ ap (λ ts. with_late ts c.args.self.now.tallies) (take_least c.args.late.tasks c.args.late.count _ 32 n c.min-n.ensures))
