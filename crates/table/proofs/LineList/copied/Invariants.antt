-- `LineList::copied` meets its contract. Assumes nothing.
use mathlib.Core.Path.{◌≡◌}
use mathlib.Core.List.{foldl}
use lib.ListN.{length, take}
use Rattle.table.specs.Copy.{begun, as_list, pushed_of}
use Rattle.table.proofs.LineList.copied.Given as goal

abbrev pub invariant-loop-line : goal.invariant-loop-line
invariant-loop-line g l = l.copy ≡ foldl (pushed_of g.row.N) (as_list g.row.N (begun g.row.N (length l.lines))) (take l.line-index l.lines)
