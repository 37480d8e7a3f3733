-- `table::kept` meets its contract. Assumes nothing.
use Prim.Native.Nat.{◌-◌}
use mathlib.Core.Path.{◌≡◌}
use mathlib.Core.List.{◌++◌}
use lib.ListN.{length, take, replicate}
use Rattle.rules.specs.Words.{places}
use Rattle.rules.specs.Table.{no_line}
use Rattle.table.proofs.kept.Given as goal

abbrev pub invariant-loop-i : goal.invariant-loop-i
invariant-loop-i l = record {
  all : length l.lines ≡ places;
  blanks : take l.i l.lines ++ replicate (places - l.i) no_line ≡ take l.initial.i l.initial.lines ++ replicate (places - l.initial.i) no_line;
}
