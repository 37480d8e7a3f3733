-- `head::checked_table` meets its contract. Assumes nothing.
use Rattle.head.proofs.Handing.{checks}
use Rattle.head.proofs.checked_table.Goals as goal

pub returns : goal.returns
returns c =
    checks c.args.t c.check-checked.result _ c.check-checked.ensures (rw (c.placed.ensures, c.from.ensures))
