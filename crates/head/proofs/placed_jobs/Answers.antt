-- `head::placed_jobs` meets its contract. Assumes nothing.
use borrow.Author.Rules.{rules}
use Prim.Native.Nat.{◌<◌}
use mathlib.Core.Path.{◌≡◌, refl}
use lib.ListN.{length, length-set}
use native.Mathlib.Omega.{arith}
use Rattle.rules.specs.Words.{places}
use Rattle.head.specs.Placed.{placed_job}
use Rattle.head.proofs.Copies.{copied_turn, behind_turn, copied_end}
use Rattle.head.proofs.placed_jobs.Goals as goal
use Rattle.head.proofs.placed_jobs.Goals.{Start}

-- the array has its places
full : (c : Start) → length c.args.jobs ≡ places
full c = search rules

there-full : (c : Start) → length c.args.there ≡ places
there-full c = search rules

pub loop-i-init : goal.loop-i-init
loop-i-init c = (omega (arith, full (goal.at.loop-i-init c).Start, there-full (goal.at.loop-i-init c).Start), refl, refl)

pub loop-i-preserved : goal.loop-i-preserved
loop-i-preserved c =
    let l = c.loop-i in
    let m : l.i < length c.args.jobs = omega (arith, full (goal.at.loop-i-preserved c).Start, c.requires.0) in (
      simp length-set l.invariant.0,
      rw c.from.ensures (copied_turn placed_job c.args.jobs _ l.out l.i l.invariant _ m),
      behind_turn placed_job c.args.jobs _ l.out l.i l.invariant _,
    )

pub returns : goal.returns
returns c =
    let l = c.loop-i in
    copied_end placed_job c.args.jobs _ l.out l.i l.invariant c.args.n (omega arith) c.requires.1
