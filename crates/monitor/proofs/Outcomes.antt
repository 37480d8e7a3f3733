-- One outcome: any two that satisfy what the source of a public function ensures are equal, its lent tallies included. A field for each. Assumes nothing.
use mathlib.Core.Path.{refl}
use Rattle.rules.proofs.Outcome.{OneStated, OneStatedWith, only}
use Rattle.monitor.proofs.Monitor.none.Reads as none
use Rattle.monitor.proofs.up.Reads as up
use Rattle.monitor.proofs.Monitor.count_late.Reads as count_late
use Rattle.monitor.proofs.Monitor.count_ended.Reads as count_ended
use Rattle.monitor.proofs.with_late.Reads as with_late
use Rattle.monitor.proofs.with_ended.Reads as with_ended

pub record Outcomes : Type 0 where
  none : OneStated none.Post
  up : OneStated up.Post
  count_late : OneStatedWith count_late.Post (λ κs s. s.0.now)
  count_ended : OneStatedWith count_ended.Post (λ κs s. s.0.now)
  with_late : OneStated with_late.Post
  with_ended : OneStated with_ended.Post

pub the_outcomes : Outcomes
the_outcomes =
    record {
      none = λ κs a r r' s s'. only;
      up = λ κs a r r' s s'. only;
      count_late = λ κs a r r' s s' p q. (refl, only p q);
      count_ended = λ κs a r r' s s' p q. (refl, only p q);
      with_late = λ κs a r r' s s'. only;
      with_ended = λ κs a r r' s s'. only;
    }
