-- `table::pairs` meets its contract. Assumes nothing.
use Prim.Native.Nat.{◌+◌}
use mathlib.Core.Path.{sym, ap, ◌∙◌}
use lib.ListN.{drop}
use Rattle.rules.specs.Table.{pairs_from}
use Rattle.table.specs.Lines.{line_at, answered}
use Rattle.table.proofs.Laws.{pairs_enter, pairs_turn, pairs_stop, pairs_leave, pairs_end}
use Rattle.table.proofs.pairs.Goals as goal

pub loop-j-init : goal.loop-j-init
loop-j-init c =
    let l = c.lines in
    record { none = l.invariant.none; turns = pairs_enter c.args.lines.now l.i c.lines-test.true ∙ l.invariant.turns }

pub loop-j-preserved : goal.loop-j-preserved
loop-j-preserved c =
    let xs = c.args.lines.now in
    let l = c.loop-j in
    let i = c.lines.i in
    record {
      none = l.invariant.none;
      turns = pairs_turn xs i l.j (line_at xs i) (pairs_from (i + 1) (drop (i + 1) xs)) c.loop-j-test.true (sym c.clash.ensures ∙ c.if-clash.false) ∙ l.invariant.turns;
    }

pub lines-preserved : goal.lines-preserved
lines-preserved c =
    let xs = c.args.lines.now in
    let l = c.loop-j in
    let i = c.lines.i in
    record {
      none = l.invariant.none;
      turns = pairs_leave xs i l.j (line_at xs i) (pairs_from (i + 1) (drop (i + 1) xs)) c.loop-j-test.false ∙ l.invariant.turns;
    }

pub returns-after-lines : goal.returns-after-lines
returns-after-lines c =
    let l = c.lines in
    ap answered l.invariant.none ∙ sym (pairs_end c.args.lines.now l.i c.lines-test.false) ∙ l.invariant.turns

pub returns-then-clash : goal.returns-then-clash
returns-then-clash c =
    let xs = c.args.lines.now in
    let l = c.loop-j in
    let i = c.lines.i in
    pairs_stop xs i l.j (line_at xs i) (pairs_from (i + 1) (drop (i + 1) xs)) c.loop-j-test.true (sym c.clash.ensures ∙ c.if-clash.true) ∙ l.invariant.turns
