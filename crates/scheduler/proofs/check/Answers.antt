-- `scheduler::check` meets its contract. Assumes nothing.
use mathlib.Core.Path.{◌≡◌, ◌∙◌}
use lib.ListN.{length}
use Rattle.rules.specs.Words.{places}
use Rattle.scheduler.proofs.Checking.{checked_refused, checked_accepted, checked_few, checked_lines}
use Rattle.scheduler.proofs.check.Goals as goal
use Rattle.scheduler.proofs.check.Goals.{Start}

-- a table has all its places
full : (c : Start) → length c.args.given.lines ≡ places
full c = c.well_formed.0.1.1.0.1.0.1

pub returns-then-verdict-ne0 : goal.returns-then-verdict-ne0
returns-then-verdict-ne0 c =
    checked_refused c.args.given _ c.check-verdict.ensures _ _ c.fresh.ensures c.empty.ensures c.if-verdict-ne0.true

pub kept-requires : goal.kept-requires
kept-requires c =
    checked_few c.args.given _ c.check-verdict.ensures (full (goal.at.kept-requires c).Start) c.if-verdict-ne0.false

pub returns : goal.returns
returns c =
    let n = c.if-verdict-ne0.false in
    checked_accepted c.args.given _ c.check-verdict.ensures _ _ c.fresh-2.ensures
    (c.kept.ensures ∙ checked_lines c.args.given _ c.check-verdict.ensures (full (goal.at.returns c).Start) n) n
