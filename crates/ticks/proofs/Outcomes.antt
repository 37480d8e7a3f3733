-- One outcome: any two that satisfy what the source of a public function ensures are equal. A field for each. Assumes nothing.
use Rattle.rules.proofs.Outcome.{OneStated, only}
use Rattle.ticks.proofs.plus.Reads as plus
use Rattle.ticks.proofs.is_beyond.Reads as is_beyond
use Rattle.ticks.proofs.bad_tick.Reads as bad_tick
use Rattle.ticks.proofs.is_past.Reads as is_past
use Rattle.ticks.proofs.response.Reads as response

pub record Outcomes : Type 0 where
  plus : OneStated plus.Post
  is_beyond : OneStated is_beyond.Post
  bad_tick : OneStated bad_tick.Post
  is_past : OneStated is_past.Post
  response : OneStated response.Post

pub the_outcomes : Outcomes
the_outcomes =
    record {
      plus = λ κs a r r' s s'. only;
      is_beyond = λ κs a r r' s s'. only;
      bad_tick = λ κs a r r' s s'. only;
      is_past = λ κs a r r' s s'. only;
      response = λ κs a r r' s s'. only;
    }
