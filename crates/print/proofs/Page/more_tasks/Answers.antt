-- `print::Page::more_tasks` meets its contract. Assumes nothing.
use borrow.Author.Rules.{rules}
use mathlib.Core.Path.{ap}
use lib.Seq.{take_all}
use Rattle.rules.specs.Print.{comma_tasks}
use Rattle.print.proofs.Texts.{none_put, then, as_text, more_tasks}
use Rattle.print.proofs.Page.more_tasks.Goals as goal

pub loop-task-init : goal.loop-task-init
unfolding comma_tasks
loop-task-init c = none_put _ _

pub loop-task-preserved : goal.loop-task-preserved
loop-task-preserved c =
    as_text (more_tasks c.args.tasks.now c.loop-task.task-index (search rules)) (then c.loop-task.invariant c.named.ensures)

pub returns : goal.returns
returns c = as_text (ap comma_tasks (take_all c.loop-task.task-index c.args.tasks.now (search rules))) c.loop-task.invariant
