-- `kernel::dispatch` meets its contract. Assumes nothing.
use mathlib.Core.Path.{◌≡◌, sym, ap, ◌∙◌}
use borrow.Author.Rules.{rules}
use lib.ListN.{length}
use Rattle.kernel.specs.declared.Best.{Best}
use Rattle.kernel.specs.Dispatch.{best_from, no_best, dispatch_of}
use Rattle.kernel.proofs.Laws.{best_turn, best_done, view_least}
use Rattle.kernel.proofs.dispatch.Goals as goal

pub loop-i-preserved : goal.loop-i-preserved
loop-i-preserved c =
    let l = c.loop-i in
    rw c.better-best.ensures (sym (best_turn c.args.table.lines l.i l.best _ c.loop-i-test.true) ∙ l.invariant)

pub returns : goal.returns
unfolding dispatch_of
returns c =
    let l = c.loop-i in
    let n : length c.args.list.jobs ≡ 32 = search rules in
    ap (λ (x : Best). x.found)
    (sym (best_done c.args.table.lines l.i l.best _ c.loop-i-test.false) ∙ l.invariant ∙ ap (best_from c.args.table.lines 0 no_best) (view_least c.args.list _ 32 n c.min-n.ensures))
