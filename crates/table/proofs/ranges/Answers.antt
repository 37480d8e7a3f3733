-- `table::ranges` meets its contract. Assumes nothing.
use mathlib.Core.Path.{◌∙◌}
use Rattle.std.proofs.lemmas.Result.{err_from_is_err_and}
use Rattle.table.proofs.Laws.{ranges_turn, ranges_stop}
use Rattle.table.proofs.ranges.Goals as goal

pub loop-i-preserved : goal.loop-i-preserved
loop-i-preserved c =
    ranges_turn c.args.lines.now c.loop-i.i c.loop-i-test.true c.in_ok-in_range.ensures ∙ c.loop-i.invariant

pub returns-in_err-in_range : goal.returns-in_err-in_range
returns-in_err-in_range c =
    let p = err_from_is_err_and c.from_residual.result c.from_residual.ensures.1 in
    rw (p.1, p.2) (ranges_stop c.args.lines.now c.loop-i.i _ c.loop-i-test.true c.in_err-in_range.ensures ∙ c.loop-i.invariant)
