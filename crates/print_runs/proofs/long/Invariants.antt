-- `print_runs::long` meets its contract. Assumes nothing.
use Rattle.std.proofs.Common.{IfSome}
use Rattle.scheduler.specs.State.{Handed}
use Rattle.print_runs.proofs.long.Given as goal

abbrev pub invariant-loop : goal.invariant-loop
invariant-loop l = IfSome l.run (λ r. Handed r.state)
