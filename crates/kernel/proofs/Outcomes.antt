-- One outcome: any two that satisfy what the source of a public function ensures are equal. A field for each. Assumes nothing.
use Rattle.rules.proofs.Outcome.{OneStated, only}
use Rattle.kernel.proofs.dispatch.Reads as dispatch

pub record Outcomes : Type 0 where
  dispatch : OneStated dispatch.Post

pub the_outcomes : Outcomes
the_outcomes =
    record {
      dispatch = λ κs a r r' s s'. only;
    }
