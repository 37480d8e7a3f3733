-- One outcome: any two that satisfy what the source of a public function ensures are equal, its lent page included. A field for each. Assumes nothing.
use mathlib.Core.Path.{refl}
use Rattle.rules.proofs.Outcome.{OneStated, OneStatedWith, only}
use Rattle.print.proofs.Texts.{one_page}
use Rattle.print.proofs.Page.new.Reads as new
use Rattle.print.proofs.Page.clear.Reads as clear
use Rattle.print.proofs.Page.byte.Reads as byte
use Rattle.print.proofs.Page.words.Reads as words
use Rattle.print.proofs.Page.number.Reads as number
use Rattle.print.proofs.Page.two.Reads as two
use Rattle.print.proofs.Page.running.Reads as running
use Rattle.print.proofs.Page.answer.Reads as answer
use Rattle.print.proofs.Page.verdict.Reads as verdict
use Rattle.print.proofs.Page.answer_line.Reads as answer_line
use Rattle.print.proofs.Page.header_line.Reads as header_line
use Rattle.print.proofs.Page.table_line.Reads as table_line
use Rattle.print.proofs.Page.tape_numbers.Reads as tape_numbers
use Rattle.print.proofs.Page.tape_line.Reads as tape_line

pub record Outcomes : Type 0 where
  new : OneStated new.Post
  clear : OneStatedWith clear.Post (λ κs s. s.0.now)
  byte : OneStatedWith byte.Post (λ κs s. s.0.now)
  words : OneStatedWith words.Post (λ κs s. s.0.now)
  number : OneStatedWith number.Post (λ κs s. s.0.now)
  two : OneStatedWith two.Post (λ κs s. s.0.now)
  running : OneStatedWith running.Post (λ κs s. s.0.now)
  answer : OneStatedWith answer.Post (λ κs s. s.0.now)
  verdict : OneStatedWith verdict.Post (λ κs s. s.0.now)
  answer_line : OneStatedWith answer_line.Post (λ κs s. s.0.now)
  header_line : OneStatedWith header_line.Post (λ κs s. s.0.now)
  table_line : OneStatedWith table_line.Post (λ κs s. s.0.now)
  tape_numbers : OneStatedWith tape_numbers.Post (λ κs s. s.0.now)
  tape_line : OneStatedWith tape_line.Post (λ κs s. s.0.now)

pub the_outcomes : Outcomes
the_outcomes =
    record {
      new = λ κs a r r' s s' p q. λ i. record { bytes = only p.0 q.0 i; len = only p.1 q.1 i };
      clear = λ κs a r r' s s' p q. (refl, λ i. record { bytes = only p.0 q.0 i; len = only p.1 q.1 i });
      byte = λ κs a r r' s s' p q. (refl, one_page s.0.now s'.0.now p q);
      words = λ κs a r r' s s' p q. (refl, one_page s.0.now s'.0.now p q);
      number = λ κs a r r' s s' p q. (refl, one_page s.0.now s'.0.now p q);
      two = λ κs a r r' s s' p q. (refl, one_page s.0.now s'.0.now p q);
      running = λ κs a r r' s s' p q. (refl, one_page s.0.now s'.0.now p q);
      answer = λ κs a r r' s s' p q. (refl, one_page s.0.now s'.0.now p q);
      verdict = λ κs a r r' s s' p q. (refl, one_page s.0.now s'.0.now p q);
      answer_line = λ κs a r r' s s' p q. (refl, one_page s.0.now s'.0.now p q);
      header_line = λ κs a r r' s s' p q. (refl, one_page s.0.now s'.0.now p q);
      table_line = λ κs a r r' s s' p q. (refl, one_page s.0.now s'.0.now p q);
      tape_numbers = λ κs a r r' s s' p q. (refl, one_page s.0.now s'.0.now p q);
      tape_line = λ κs a r r' s s' p q. (refl, one_page s.0.now s'.0.now p q);
    }
