-- `State::terminate` meets its contract. Assumes nothing.
use mathlib.Core.Path.{◌≡◌, refl, sym, ap, ◌∙◌}
use lib.ListN.{drop}
use Rattle.rules.specs.declared.Call.TheVariants.{Terminate}
use Rattle.rules.specs.declared.Job.{Job as Entry}
use Rattle.jobs.specs.declared.JobList.{JobList}
use Rattle.jobs.specs.Listed.{view, pack, release_first, lead_of}
use Rattle.table.specs.Lines.{line_at}
use Rattle.scheduler.specs.declared.State.{State}
use Rattle.scheduler.specs.Steps.{settle_of, settled_in, late_of, late_counted, tallied_in}
use Rattle.scheduler.proofs.Whole.{change_in}
use Rattle.scheduler.proofs.Handed.{handed_shaped, handed_sorted, Ends, terminate_ends}
use Rattle.scheduler.proofs.Decided.{at_0, short_line, ended_is, refused_leaves, accepted_leaves}
use Rattle.scheduler.proofs.State.terminate.Goals as goal
use Rattle.scheduler.proofs.State.terminate.Goals.{In_default}

-- where the call is accepted a job ends
ends : (c : In_default) → Ends c.args.self.now c.args.at
ends c =
    let s = c.args.self.now in
    terminate_ends s c.requires c.args.at (at_0 s c.requires (Terminate c.args.at) (sym c.terminate_refusal.ensures ∙ c.in_default.is))

pub returns-in-Err : goal.returns-in-Err
returns-in-Err c =
    refused_leaves c.args.self.now c.requires (Terminate c.args.at) c.in-Err.refusal (sym c.terminate_refusal.ensures ∙ c.in-Err.is) _ c.refused.ensures

pub report_end-late-requires : goal.report_end-late-requires
report_end-late-requires c =
    let s = c.args.self.now in
    (handed_shaped s c.requires, handed_sorted s c.requires, short_line s c.requires _ _ c.line_of-line.ensures, (ends (goal.at.report_end-late-requires c).In_default).in_time)

pub remove_first-lead-requires : goal.remove_first-lead-requires
remove_first-lead-requires c =
    rw c.report_end-late.ensures.0 (handed_shaped c.args.self.now c.requires, (ends (goal.at.remove_first-lead-requires c).In_default).some_one)

pub returns : goal.returns
unfolding settled_in
returns c =
    let s = c.args.self.now in
    let at = c.args.at in
    let e = Terminate at in
    let p = c.report_end-late.ensures.0 ∙ ended_is s at _ (c.line_of-line.ensures ∙ ap (λ (x : Entry). line_at s.table.lines x.task) c.first.ensures) in
    let l : c.report_end-late.new.self.list ≡ s.list = ap (λ (x : State). x.list) p in
    let k : c.remove_first-lead.new.self ≡ (change_in s e).list = c.remove_first-lead.ensures.0 ∙ ap (λ (x : JobList). pack (release_first (drop 1 (view x)))) l in
    let f : c.settle_call.result ≡ (change_in s e).call = c.settle_call.ensures ∙ ap settle_of (c.remove_first-lead.ensures.1 ∙ ap (λ (x : JobList). lead_of (drop 1 (view x))) l) in
    accepted_leaves s c.requires e (sym c.terminate_refusal.ensures ∙ c.in_default.is) at (tallied_in s.table (view s.list) at (late_counted (late_of s at) s.monitor)) (change_in s e) refl _
    (λ i. record { table = (p i).table; last = (p i).last; list = k i; monitor = (p i).monitor }) _ f _ c.report_end-late.ensures.1 _ c.accepted.ensures
