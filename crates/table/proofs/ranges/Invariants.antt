-- `table::ranges` meets its contract. Assumes nothing.
use mathlib.Core.Path.{◌≡◌}
use lib.ListN.{drop}
use Rattle.rules.specs.Table.{ranges_from}
use Rattle.table.proofs.ranges.Given as goal

abbrev pub invariant-loop-i : goal.invariant-loop-i
invariant-loop-i l = ranges_from l.i (drop l.i l.lines) ≡ ranges_from 0 l.lines
