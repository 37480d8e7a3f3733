-- `transcript::run_call` meets its contract. Assumes nothing.
use Rattle.rules.specs.Calls.{tick_of}
use Rattle.scheduler.specs.State.{step_of}
use mathlib.Core.Path.{◌≡◌}
use Rattle.transcript.specs.Pieces.{called_of}
use Rattle.transcript.proofs.run_call.Goals as goal

pub returns : goal.returns
unfolding called_of
returns c =
    let a = c.args in
    let s : c.call-made.result ≡ step_of a.run.state a.call = c.call-made.ensures.0 in
    let t : c.tick_of.result ≡ tick_of a.call = c.tick_of.ensures in
    (λ i. record { answer = (s i).answer; run = record { state = (s i).state; at = a.next; preceding = t i } }, c.call-made.ensures.1)
