-- One outcome: any two that satisfy what the source of a public function ensures are equal, its lent page included. A field for each. Assumes nothing.
use mathlib.Core.Path.{refl}
use Rattle.rules.proofs.Outcome.{OneStated, OneStatedWith, only}
use Rattle.print.proofs.Texts.{one_page}
use Rattle.transcript.proofs.Ones.{one_lined}
use Rattle.transcript.proofs.open.Reads as opens
use Rattle.transcript.proofs.open_line.Reads as open_line
use Rattle.transcript.proofs.next_line.Reads as next_line
use Rattle.transcript.proofs.run_out.Reads as run_out
use Rattle.transcript.proofs.halt_line.Reads as halt_line

pub record Outcomes : Type 0 where
  «open» : OneStated opens.Post
  open_line : OneStatedWith open_line.Post (λ κs s. s.0.now)
  next_line : OneStatedWith next_line.Post (λ κs s. s.1.1.0.now)
  run_out : OneStated run_out.Post
  halt_line : OneStatedWith halt_line.Post (λ κs s. s.0.now)

pub the_outcomes : Outcomes
the_outcomes =
    record {
      «open» = λ κs a r r' s s' p q. only p.0 q.0;
      open_line = λ κs a r r' s s' p q. (refl, one_page s.0.now s'.0.now p q);
      next_line = λ κs a r r' s s'. one_lined a.0.now a.1.0 a.1.1.0.now.bytes a.1.1.0.now.len r r' s.1.1.0.now s'.1.1.0.now;
      run_out = λ κs a r r' s s' p q. only p.0 q.0;
      halt_line = λ κs a r r' s s' p q. (refl, one_page s.0.now s'.0.now p q);
    }
