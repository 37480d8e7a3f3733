-- `reasons::lines` meets its contract. Assumes nothing.
use mathlib.Core.Path.{◌≡◌, sym, ap, ◌∙◌}
use native.Mathlib.Omega.{arith}
use Rattle.std.specs.Prelude.{ℕ, Result}
use Rattle.print.proofs.Texts.{then, as_text, none_put}
use Rattle.rules.specs.declared.Reason.{Reason}
use Rattle.rules.specs.declared.CallRefusal.{CallRefusal}
use Rattle.rules.specs.Print.{ended}
use Rattle.rules.specs.WhyPrint.{why_text, why_lines_from}
use Rattle.rules.specs.Why.{why}
use Rattle.scheduler.specs.declared.State.{State}
use Rattle.scheduler.specs.State.{table_of, head_of, why_of}
use Rattle.reasons.proofs.Listing.{one_more, no_line, kept_size, few_lines}
use Rattle.reasons.proofs.lines.Goals as goal

-- what is asked of the state is asked of its table and board
is : (s : State) (n : ℕ) (w : Result Reason CallRefusal) → w ≡ why_of s n → w ≡ why (table_of s) (head_of s).board n
unfolding why_of
is s n w e = e

pub overflow_cast-count : goal.overflow_cast-count
overflow_cast-count c = omega (arith, few_lines c.args.state c.requires)

pub loop-task-init : goal.loop-task-init
loop-task-init c = let s = c.args.state in as_text (no_line (table_of s) (head_of s).board) (none_put _ _)

pub loop-task-preserved : goal.loop-task-preserved
loop-task-preserved c =
    let l = c.loop-task in
    let s = c.args.state in
    let e = is s l.task c.why-answer.result c.why-answer.ensures in
    as_text (one_more (table_of s) (head_of s).board l.task)
    (then l.invariant (as_text (ap (λ (w : Result Reason CallRefusal). ended (why_text l.task w)) e) (then c.why.ensures c.byte.ensures)))

pub returns : goal.returns
returns c =
    let l = c.loop-task in
    let s = c.args.state in
    let e : l.task ≡ s.table.count = omega arith in
    as_text (ap (why_lines_from (table_of s) (head_of s).board 0) (e ∙ sym (kept_size s c.requires))) l.invariant
