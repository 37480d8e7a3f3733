-- `table::in_range` meets its contract. Assumes nothing.
use mathlib.Core.Path.{sym}
use native.Mathlib.Omega.{arith}
use Rattle.table.proofs.Laws.{refusal_2, refusal_3, refusal_0}
use Rattle.table.proofs.in_range.Goals as goal
use Rattle.table.proofs.in_range.Goals.{then-line-lt1-via-then-line-lt1, then-line-lt1-via-else-line-lt1+then-line-gt-LONGEST, then-line-lt1-2-via-then-line-lt1-2, then-line-lt1-2-via-else-line-lt1-2+then-line-gt32}

pub returns-then-line-lt1 : goal.returns-then-line-lt1
returns-then-line-lt1 c =
    elim c.then-line-lt1.branch [
      | then-line-lt1-via-then-line-lt1 w ↦ sym (refusal_2 c.args.i c.args.line (λ z. omega arith))
      | then-line-lt1-via-else-line-lt1+then-line-gt-LONGEST w ↦ sym (refusal_2 c.args.i c.args.line (λ z. omega arith))
    ]

pub returns-then-line-lt1-2 : goal.returns-then-line-lt1-2
returns-then-line-lt1-2 c =
    elim c.then-line-lt1-2.branch [
      | then-line-lt1-2-via-then-line-lt1-2 w ↦ sym (refusal_3 c.args.i c.args.line (omega arith, omega arith) (λ z. omega arith))
      | then-line-lt1-2-via-else-line-lt1-2+then-line-gt32 w ↦ sym (refusal_3 c.args.i c.args.line (omega arith, omega arith) (λ z. omega arith))
    ]

pub returns : goal.returns
returns c =
    sym (refusal_0 c.args.i c.args.line (omega arith, omega arith) (omega arith, omega arith))
