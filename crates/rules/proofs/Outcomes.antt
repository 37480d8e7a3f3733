-- One outcome: any two that satisfy what the source of a public function ensures are equal. A field for each. Assumes nothing.
use Rattle.rules.proofs.Outcome.{OneStated, only}
use Rattle.rules.proofs.Phase.is_released.Reads as is_released

pub record Outcomes : Type 0 where
  is_released : OneStated is_released.Post

pub the_outcomes : Outcomes
the_outcomes = record { is_released = λ κs a r r' s s'. only }
