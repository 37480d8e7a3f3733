-- One outcome: any two that satisfy what the source of a public function ensures are equal. A field for each. Assumes nothing.
use Rattle.rules.proofs.Outcome.{OneStated, only}
use Rattle.scheduler.proofs.check.Reads as check
use Rattle.scheduler.proofs.tick.Reads as tick
use Rattle.scheduler.proofs.activate.Reads as activate
use Rattle.scheduler.proofs.terminate.Reads as terminate
use Rattle.scheduler.proofs.chain.Reads as chain
use Rattle.scheduler.proofs.call.Reads as call
use Rattle.scheduler.proofs.why.Reads as why

pub record Outcomes : Type 0 where
  check : OneStated check.Post
  tick : OneStated tick.Post
  activate : OneStated activate.Post
  terminate : OneStated terminate.Post
  chain : OneStated chain.Post
  call : OneStated call.Post
  why : OneStated why.Post

pub the_outcomes : Outcomes
the_outcomes =
    record {
      check = λ κs a r r' s s' p q. only p.0 q.0;
      tick = λ κs a r r' s s' p q. only p.0 q.0;
      activate = λ κs a r r' s s' p q. only p.0 q.0;
      terminate = λ κs a r r' s s' p q. only p.0 q.0;
      chain = λ κs a r r' s s' p q. only p.0 q.0;
      call = λ κs a r r' s s' p q. only p.0 q.0;
      why = λ κs a r r' s s'. only;
    }
