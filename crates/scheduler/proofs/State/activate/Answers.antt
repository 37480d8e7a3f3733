-- `State::activate` meets its contract. Assumes nothing.
use mathlib.Core.Path.{◌≡◌, refl, sym, ap, ◌∙◌}
use mathlib.Core.Bool.{Bool}
use Rattle.rules.specs.declared.Call.TheVariants.{Activate}
use Rattle.rules.specs.declared.Line.{Line}
use Rattle.rules.specs.declared.Phase.TheVariants.{Delayed}
use Rattle.rules.specs.Answers.{phase_of}
use Rattle.jobs.specs.Listed.{view, pack, is_first_in, insert_due}
use Rattle.scheduler.specs.declared.State.{State}
use Rattle.scheduler.specs.declared.Activation.{Activation}
use Rattle.scheduler.specs.Steps.{asked_by, asked_of, activate_refusal, job_as, entry_call, entered_in, late_of, late_counted}
use Rattle.scheduler.proofs.Rows.{allowed_in}
use Rattle.scheduler.proofs.Whole.{change_in}
use Rattle.scheduler.proofs.Handed.{handed_shaped, handed_sorted, handed_room}
use Rattle.scheduler.proofs.Decided.{at_0, refused_leaves, accepted_leaves}
use Rattle.scheduler.proofs.State.activate.Goals as goal
use Rattle.scheduler.proofs.State.activate.Goals.{After-activate_refusal}

-- the activation that is asked for
asks : (c : After-activate_refusal) → c.asked-new.result ≡ asked_of c.args.self.now.table c.args.at c.args.task
unfolding asked_of
asks c = c.asked-new.ensures ∙ ap (λ (x : Line). asked_by x c.args.at c.args.task) c.line_of-line.ensures

-- the rows that are tested
rows : (c : After-activate_refusal) → allowed_in c.args.self.now (Activate c.args.at c.args.task) ≡ c.activate_refusal.result
rows c =
    let s = c.args.self.now in
    sym (c.activate_refusal.ensures ∙ ap (activate_refusal s.last s.table.count s.list) (asks c))

pub activate_refusal-requires : goal.activate_refusal-requires
activate_refusal-requires c = handed_shaped c.args.self.now c.requires

pub returns-in-Err : goal.returns-in-Err
returns-in-Err c =
    refused_leaves c.args.self.now c.requires (Activate c.args.at c.args.task) c.in-Err.refusal (rows (goal.at.returns-in-Err c).After-activate_refusal ∙ c.in-Err.is) _ c.refused.ensures

pub report-late-requires : goal.report-late-requires
report-late-requires c = (handed_shaped c.args.self.now c.requires, handed_sorted c.args.self.now c.requires)

pub insert-requires : goal.insert-requires
insert-requires c =
    let s = c.args.self.now in
    let e = Activate c.args.at c.args.task in
    rw c.report-late.ensures.0
    (handed_shaped s c.requires, handed_sorted s c.requires, handed_room s c.requires c.args.at c.args.task (at_0 s c.requires e (rows (goal.at.insert-requires c).After-activate_refusal ∙ c.in_default.is)))

pub returns : goal.returns
unfolding entered_in asked_of
returns c =
    let s = c.args.self.now in
    let at = c.args.at in
    let n = c.args.task in
    let e = Activate at n in
    let due = (asked_of s.table at n).due in
    let a = asks (goal.at.returns c).After-activate_refusal in
    let p = c.report-late.ensures.0 in
    let l : c.report-late.new.self.list ≡ s.list = ap (λ (x : State). x.list) p in
    let f : c.is_first-first.result ≡ is_first_in (job_as n due Delayed) (view s.list) = c.is_first-first.ensures ∙ (λ i. is_first_in ((c.job.ensures ∙ ap (λ (x : Activation). job_as x.task x.due Delayed) a) i) (view (l i))) in
    let j : c.job-2.result ≡ job_as n due (phase_of (is_first_in (job_as n due Delayed) (view s.list))) = c.job-2.ensures ∙ (λ i. job_as (a i).task (a i).due (c.from.ensures i)) ∙ ap (λ (b : Bool). job_as n due (phase_of b)) f in
    let k : c.insert.new.self ≡ (change_in s e).list = c.insert.ensures ∙ (λ i. pack (insert_due (j i) (view (l i)))) in
    accepted_leaves s c.requires e (rows (goal.at.returns c).After-activate_refusal ∙ c.in_default.is) at (late_counted (late_of s at) s.monitor) (change_in s e) refl _
    (λ i. record { table = (p i).table; last = (p i).last; list = k i; monitor = (p i).monitor }) _ (c.entry_call.ensures ∙ ap (λ (b : Bool). entry_call b n) f) _ c.report-late.ensures.1 _ c.accepted.ensures
