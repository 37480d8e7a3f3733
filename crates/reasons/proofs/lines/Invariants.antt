use Rattle.rules.specs.WhyPrint.{why_lines_from}
use Rattle.print.specs.Buffers.{Put}
use Rattle.scheduler.specs.State.{table_of, head_of}
use Rattle.reasons.proofs.lines.Given as goal

abbrev pub invariant-loop-task : goal.invariant-loop-task
invariant-loop-task l = Put l.initial.page.bytes l.initial.page.len (why_lines_from (table_of l.state) (head_of l.state).board 0 l.task) l.page.bytes l.page.len
