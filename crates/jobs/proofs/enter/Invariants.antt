-- `jobs::enter` meets its contract. Assumes nothing.
use Prim.Native.Nat.{◌≤◌, ◌<◌}
use mathlib.Core.Path.{◌≡◌}
use lib.ListN.{length}
use Rattle.rules.specs.Words.{places}
use Rattle.jobs.proofs.Shifts.{Entering}
use Rattle.jobs.proofs.enter.Given as goal

abbrev pub invariant-loop-i : goal.invariant-loop-i
invariant-loop-i l =
    record { here : l.place ≡ l.i; most : l.i ≤ l.initial.i; many : l.initial.i < places; all : length l.initial.jobs ≡ places; kept : length l.jobs ≡ places; turns : Entering l.initial.jobs l.job l.initial.i l.jobs l.i }
