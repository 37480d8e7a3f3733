-- `number::read_rest` meets its contract. The loop's invariant: what all the groups give is the value so far joined to what the groups from the next place on give.
-- Assumes nothing.
use Prim.Native.Nat.{◌+◌, ◌-◌, ◌*◌, ◌^◌, ◌≤◌, ◌<◌}
use mathlib.Core.Path.{◌≡◌}
use lib.ListN.{length, drop}
use Rattle.rules.specs.Number.{rest_of, joined}
use Rattle.number.proofs.read_rest.Given as goal

abbrev pub invariant-loop-i : goal.invariant-loop-i
invariant-loop-i l =
    (l.from + l.i ≤ length l.tape) × (l.value < l.scale) × (l.scale * 128 ^ (8 - l.i) ≡ 2 ^ 63)
    × (joined l.first 128 (rest_of 8 l.from (drop l.from l.tape)) ≡ joined l.value l.scale (rest_of (8 - l.i) (l.from + l.i) (drop (l.from + l.i) l.tape)))
