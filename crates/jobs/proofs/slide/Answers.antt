-- `jobs::slide` meets its contract. Assumes nothing.
use mathlib.Core.Path.{refl, sym, ◌∙◌}
use native.Mathlib.Omega.{arith}
use borrow.Author.Rules.{rules}
use lib.ListN.{length-set}
use Rattle.jobs.proofs.Shifts.{slide_step, slide_end, slide_stop}
use Rattle.jobs.proofs.slide.Goals as goal
use Rattle.jobs.proofs.slide.Goals.{else-loop-i-test, then-loop-i-test+then-stops}

pub loop-i-init : goal.loop-i-init
loop-i-init g c = record { here = refl; within = omega arith; all = search rules; turns = λ stop h. refl }

pub loop-i-preserved : goal.loop-i-preserved
loop-i-preserved g c =
    let l = c.loop-i in
    let v = l.invariant in
    record {
      here = refl;
      within = omega (arith, c.requires.0);
      all = simp length-set v.all;
      turns = λ stop h. slide_step stop l.jobs c.args.put c.args.many l.place l.i v.here c.loop-i-test.true (omega (arith, c.requires.0)) (sym (h _ _ c.stops.ensures) ∙ c.if-stops.false) ∙ v.turns stop h;
    }

pub returns : goal.returns
returns g c stop h =
    let l = c.loop-i in
    let v = l.invariant in
    (elim c.loop-i-test.branch [
      | else-loop-i-test w ↦ slide_end stop l.jobs c.args.put c.args.many l.place (omega arith) (omega (arith, w.loop-i-test.false))
      | then-loop-i-test+then-stops w ↦ slide_stop stop l.jobs c.args.put c.args.many l.place l.i v.here w.loop-i-test.true (omega (arith, c.requires.0)) (sym (h _ _ w.stops.ensures) ∙ w.if-stops.true)
    ]) ∙ v.turns stop h
