use lib.ListN.{take}
use Rattle.rules.specs.Print.{comma_tasks}
use Rattle.print.specs.Buffers.{Put}
use Rattle.print.proofs.Page.more_tasks.Given as goal

abbrev pub invariant-loop-task : goal.invariant-loop-task
invariant-loop-task l = Put l.initial.self.bytes l.initial.self.len (comma_tasks (take l.task-index l.tasks)) l.self.bytes l.self.len
