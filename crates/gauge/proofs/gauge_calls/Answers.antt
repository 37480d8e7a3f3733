-- `gauge::gauge_calls` meets its contract. Assumes nothing.
use mathlib.Core.Path.{subst⁻¹}
use Rattle.scheduler.specs.State.{Handed}
use Rattle.gauge.proofs.gauge_calls.Goals as goal
use Rattle.gauge.proofs.gauge_calls.Goals.{in-Wait, in-Activate, in-Terminate, in-Chain}

pub loop-call-preserved : goal.loop-call-preserved
loop-call-preserved c =
    elim c.match-call.branch [
      | in-Wait w ↦ subst⁻¹ Handed w.state-is w.tick-r.ensures.1
      | in-Activate w ↦ subst⁻¹ Handed w.state-is w.activate-r.ensures.1
      | in-Terminate w ↦ subst⁻¹ Handed w.state-is w.terminate-r.ensures.1
      | in-Chain w ↦ subst⁻¹ Handed w.state-is w.chain-r.ensures.1
    ]
