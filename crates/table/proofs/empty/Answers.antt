-- `table::empty` meets its contract. Assumes nothing.
use mathlib.Core.Path.{ap}
use lib.ListN.{replicate}
use Rattle.rules.specs.declared.Line.{Line}
use Rattle.table.specs.Lines.{TaskTable, packed}
use Rattle.table.proofs.empty.Goals as goal

abbrev filled : Line → TaskTable
filled x = record { lines = replicate 32 x; count = 0 }

pub returns : goal.returns
unfolding packed
returns c = ap filled c.blank.ensures
