-- `print::Page::answer` meets its contract. Assumes nothing.
use mathlib.Core.List.{◌∷◌, ◌++◌}
use Rattle.rules.specs.Print.{decimal, spaced, run_text, due_text, call_text, late_text, answer_text}
use Rattle.print.proofs.Texts.{then, as_text, pairs_spaced}
use Rattle.print.proofs.Page.answer.Goals as goal

pub returns : goal.returns
unfolding spaced answer_text
returns c =
    let a = c.args.answer in
    as_text
    (pairs_spaced
    (decimal c.args.tick.0)
    (decimal a.result)
    (run_text a.running)
    (due_text a.running)
    (call_text a.call ++ (32 ∷ late_text a.late)))
    (then
    c.two.ensures
    (then
    c.byte.ensures
    (then
    c.running.ensures
    (then
    c.byte-2.ensures
    (then c.kernel_call.ensures (then c.byte-3.ensures c.late_tasks.ensures))))))
