-- `gauge::gauge_calls` meets its contract. Assumes nothing.
use Rattle.scheduler.specs.State.{Handed}
use Rattle.gauge.proofs.gauge_calls.Given as goal

abbrev pub invariant-loop-call : goal.invariant-loop-call
invariant-loop-call l = Handed l.state
