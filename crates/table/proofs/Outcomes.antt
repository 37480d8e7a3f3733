-- One outcome: any two that satisfy what the source of a public function ensures are equal. A field for each. Assumes nothing.
use Rattle.std.proofs.Common.{ℕ, Fits, w64}
use Rattle.rules.proofs.Outcome.{OneStated, only}
use Rattle.table.proofs.line_of.Reads as line_of
use Rattle.table.proofs.lines_of.Reads as lines_of
use Rattle.table.proofs.check.Reads as check
use Rattle.table.proofs.kept.Reads as kept
use Rattle.table.proofs.empty.Reads as empty
use Rattle.table.proofs.LineList.lines_read.Reads as lines_read
use Rattle.table.proofs.LineList.begun.Reads as begun
use Rattle.table.proofs.LineList.pushed.Reads as pushed
use Rattle.table.proofs.LineList.copied.Reads as copied

pub record Outcomes : Type 0 where
  line_of : OneStated line_of.Post
  lines_of : OneStated lines_of.Post
  check : OneStated check.Post
  kept : OneStated kept.Post
  empty : OneStated empty.Post
  lines_read : (n : ℕ) (f : Fits w64 n) → OneStated (lines_read.Post n f)
  begun : (n : ℕ) (f : Fits w64 n) → OneStated (begun.Post n f)
  pushed : (n : ℕ) (f : Fits w64 n) → OneStated (pushed.Post n f)
  copied : (n : ℕ) (f : Fits w64 n) → OneStated (copied.Post n f)

pub the_outcomes : Outcomes
the_outcomes =
    record {
      line_of = λ κs a r r' s s'. only;
      lines_of = λ κs a r r' s s'. only;
      check = λ κs a r r' s s'. only;
      kept = λ κs a r r' s s'. only;
      empty = λ κs a r r' s s'. only;
      lines_read = λ n f κs a r r' s s'. only;
      begun = λ n f κs a r r' s s'. only;
      pushed = λ n f κs a r r' s s'. only;
      copied = λ n f κs a r r' s s'. only;
    }
