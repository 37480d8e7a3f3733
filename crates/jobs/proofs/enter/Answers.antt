-- `jobs::enter` meets its contract. Assumes nothing.
use Prim.Native.Nat.{◌-◌, ◌<◌}
use mathlib.Core.Path.{◌≡◌, refl, sym, ap, ◌∙◌}
use mathlib.Core.Bool.{true}
use native.Mathlib.Omega.{arith}
use borrow.Author.Rules.{rules}
use lib.ListN.{length, take, get_or, length-set}
use Rattle.rules.specs.Search.{from_back}
use Rattle.jobs.specs.Listed.{blank_job, goes_before}
use Rattle.jobs.proofs.Shifts.{enter_start, enter_turn, enter_halt, enter_end}
use Rattle.jobs.proofs.enter.Goals as goal
use Rattle.jobs.proofs.enter.Goals.{else-loop-i-test, then-loop-i-test+then-not-goes_before}

pub loop-i-init : goal.loop-i-init
loop-i-init c =
    let a = c.args in
    record { here = refl; most = omega arith; many = c.requires.0; all = search rules; kept = search rules; turns = (refl, enter_start a.jobs.now a.many, refl) }

pub loop-i-preserved : goal.loop-i-preserved
loop-i-preserved c =
    let l = c.loop-i in
    let v = l.invariant in
    let t : 0 < l.i = c.loop-i-test.true in
    let e : length l.jobs ≡ length c.args.jobs.now = v.kept ∙ sym v.all in
    let g : goes_before c.args.job (get_or l.jobs (l.i - 1) blank_job) ≡ true = sym c.goes_before.ensures ∙ c.if-not-goes_before.false in
    record {
      here = refl;
      most = omega arith;
      many = v.many;
      all = v.all;
      kept = simp length-set v.kept;
      turns = rw v.here (enter_turn c.args.jobs.now l.jobs c.args.job c.args.many l.i t v.most (omega arith) e g v.turns);
    }

pub returns : goal.returns
returns c =
    let l = c.loop-i in
    let v = l.invariant in
    let j = c.args.job in
    let xs = c.args.jobs.now in
    let n = c.args.many in
    rw v.here
    (enter_end xs l.jobs j n l.i (omega arith) v.most c.requires.1 v.turns
    (elim c.loop-i-test.branch [
      | else-loop-i-test w ↦ (let z : l.i ≡ 0 = omega (arith, w.loop-i-test.false) in z ∙ ap (λ k. from_back goes_before j (take k xs)) (sym z) ∙ v.turns.2)
      | then-loop-i-test+then-not-goes_before w ↦ enter_halt xs l.jobs j n l.i w.loop-i-test.true v.most (omega arith) (sym w.goes_before.ensures ∙ w.if-not-goes_before.true) v.turns
    ]))
