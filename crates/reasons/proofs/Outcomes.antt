-- One outcome: any two that satisfy what the source of a public function ensures are equal, its lent page included. A field for each. Assumes nothing.
use mathlib.Core.Path.{refl}
use Rattle.rules.proofs.Outcome.{OneStatedWith}
use Rattle.print.proofs.Texts.{one_page}
use Rattle.reasons.proofs.refused.Reads as refused
use Rattle.reasons.proofs.why_refused.Reads as why_refused
use Rattle.reasons.proofs.why.Reads as why
use Rattle.reasons.proofs.text.Reads as text

pub record Outcomes : Type 0 where
  refused : OneStatedWith refused.Post (λ κs s. s.0.now)
  why_refused : OneStatedWith why_refused.Post (λ κs s. s.0.now)
  why : OneStatedWith why.Post (λ κs s. s.0.now)
  text : OneStatedWith text.Post (λ κs s. s.1.0.now)

pub the_outcomes : Outcomes
the_outcomes =
    record {
      refused = λ κs a r r' s s' p q. (refl, one_page s.0.now s'.0.now p q);
      why_refused = λ κs a r r' s s' p q. (refl, one_page s.0.now s'.0.now p q);
      why = λ κs a r r' s s' p q. (refl, one_page s.0.now s'.0.now p q);
      text = λ κs a r r' s s' p q. (refl, one_page s.1.0.now s'.1.0.now p q);
    }
