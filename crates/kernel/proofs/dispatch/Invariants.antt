-- `kernel::dispatch` meets its contract. Assumes nothing.
use mathlib.Core.Path.{◌≡◌}
use lib.ListN.{drop}
use Rattle.kernel.specs.Dispatch.{best_from}
use Rattle.kernel.proofs.dispatch.Given as goal

abbrev pub invariant-loop-i : goal.invariant-loop-i
invariant-loop-i l =
    best_from l.table.lines l.i l.best (drop l.i l.job-items) ≡ best_from l.table.lines 0 l.initial.best l.job-items
