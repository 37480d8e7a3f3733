-- `head::placed` meets its contract. Assumes nothing.
use Prim.Native.Nat.{◌≤◌}
use mathlib.Core.Path.{◌≡◌, sym}
use mathlib.Core.List.{map}
use native.Mathlib.Omega.{arith}
use lib.ListN.{length, length-map, drop_of_length-le}
use Rattle.rules.specs.Words.{places}
use Rattle.head.specs.Placed.{placed_job}
use Rattle.head.proofs.placed.Goals as goal

pub placed_jobs-requires : goal.placed_jobs-requires
placed_jobs-requires c =
    let n : length c.args.s.list.jobs ≡ places = c.well_formed.0.1.1.1.1.0.1.1.0.1.0.1 in
    let m : length (map placed_job c.args.s.list.jobs) ≤ places = simp length-map (omega (arith, n)) in
    (omega arith, sym (drop_of_length-le (map placed_job c.args.s.list.jobs) m))
