-- `table::kept` meets its contract. Assumes nothing.
use mathlib.Core.Path.{◌≡◌, sym, ◌∙◌}
use lib.ListN.{length, length-set}
use borrow.Author.Rules.{rules}
use Rattle.rules.specs.Words.{places}
use Rattle.table.proofs.Laws.{blank_turn, blank_end, kept_is}
use Rattle.table.proofs.kept.Goals as goal

pub loop-i-preserved : goal.loop-i-preserved
loop-i-preserved c =
    let v = c.loop-i.invariant in
    record { all = simp length-set v.all; blanks = rw c.blank.ensures (blank_turn c.loop-i.lines c.loop-i.i v.all c.loop-i-test.true ∙ v.blanks) }

pub returns : goal.returns
returns c =
    let l = c.loop-i in
    let n : length c.args.table.lines ≡ places = search rules in
    kept_is c.args.table l.lines n c.requires (sym (blank_end l.lines l.i l.invariant.all c.loop-i-test.false) ∙ l.invariant.blanks)
