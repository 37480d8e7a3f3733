-- `scheduler::tick` meets its contract. Assumes nothing.
use mathlib.Core.Path.{refl, ap, ◌∙◌}
use lib.Dec.{eqb}
use Rattle.rules.specs.declared.Late.{Late}
use Rattle.rules.specs.declared.Call.TheVariants.{Wait}
use Rattle.rules.specs.declared.KernelCall.TheVariants.{NoCall}
use Rattle.rules.specs.Answers.{result_number}
use Rattle.scheduler.specs.Steps.{late_counted}
use Rattle.scheduler.proofs.Whole.{change_in}
use Rattle.scheduler.proofs.Handed.{handed_shaped, handed_sorted, hand_on}
use Rattle.scheduler.proofs.OneWay.{same_if, decided}
use Rattle.scheduler.proofs.tick.Goals as goal

pub newly_late-late-requires : goal.newly_late-late-requires
newly_late-late-requires c = (handed_shaped c.args.s c.requires, handed_sorted c.args.s c.requires)

pub returns : goal.returns
unfolding late_counted
returns c =
    let s = c.args.s in
    let e = Wait c.args.at in
    let k = c.number_of-refusal.result in
    hand_on s c.requires e _
    (decided s c.requires e k (eqb k 0) (c.number_of-refusal.ensures ∙ ap result_number c.in_time.ensures) refl c.args.at (change_in s e) (λ (l : Late). late_counted l s.monitor) refl
    _ _ _ _ _ _
    (record {
      time = c.moved-now.ensures;
      lates = c.newly_late-late.ensures;
      jobs = same_if (eqb k 0) s.list;
      tallies = c.count_late.ensures ∙ same_if (eqb k 0) (late_counted c.newly_late-late.result s.monitor);
      runs = c.running.ensures;
      calls = same_if (eqb k 0) NoCall;
    }))
