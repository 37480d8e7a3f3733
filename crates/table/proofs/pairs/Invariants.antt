-- `table::pairs` meets its contract. Assumes nothing.
use Prim.Native.Nat.{◌+◌}
use mathlib.Core.Path.{◌≡◌}
use lib.ListN.{drop}
use Rattle.std.specs.Prelude.{Ok}
use Rattle.rules.specs.Table.{◌then◌, pairs_with, pairs_from}
use Rattle.table.specs.Lines.{line_at}
use Rattle.table.proofs.pairs.Given as goal

abbrev pub invariant-loop-j : goal.invariant-loop-j
invariant-loop-j l = record {
  none : l.found ≡ Ok tt;
  turns : (pairs_with l.i (line_at l.lines l.i) l.j (drop l.j l.lines) then pairs_from (l.i + 1) (drop (l.i + 1) l.lines)) ≡ pairs_from 0 l.lines;
}

abbrev pub invariant-lines : goal.invariant-lines
invariant-lines l = record {
  none : l.found ≡ Ok tt;
  turns : pairs_from l.i (drop l.i l.lines) ≡ pairs_from 0 l.lines;
}
