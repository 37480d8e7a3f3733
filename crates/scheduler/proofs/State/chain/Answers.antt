-- `State::chain` meets its contract. Assumes nothing.
use mathlib.Core.Path.{◌≡◌, refl, sym, ap, ◌∙◌}
use lib.ListN.{drop}
use Rattle.rules.specs.declared.Call.TheVariants.{Chain}
use Rattle.rules.specs.declared.Job.{Job as Entry}
use Rattle.rules.specs.declared.Phase.TheVariants.{Delayed}
use Rattle.jobs.specs.Listed.{view, pack, insert_due, release_first, lead_of}
use Rattle.table.specs.declared.LinePair.{LinePair}
use Rattle.table.specs.Lines.{line_at}
use Rattle.scheduler.specs.declared.State.{State}
use Rattle.scheduler.specs.declared.Activation.{Activation}
use Rattle.scheduler.specs.Steps.{settle_of, asked_by, asked_of, chain_refusal, job_as, settled_in, chained_in, late_of, late_counted, tallied_in}
use Rattle.scheduler.proofs.Rows.{allowed_in}
use Rattle.scheduler.proofs.Whole.{change_in}
use Rattle.scheduler.proofs.Handed.{handed_shaped, handed_sorted, Ends, chain_ends}
use Rattle.scheduler.proofs.Decided.{at_0, short_line, ended_is, refused_leaves, accepted_leaves}
use Rattle.scheduler.proofs.State.chain.Goals as goal
use Rattle.scheduler.proofs.State.chain.Goals.{After-chain_refusal, In_default}

-- the activation that is asked for
asks : (c : After-chain_refusal) → c.asked-new.result ≡ asked_of c.args.self.now.table c.args.at c.args.task
unfolding asked_of
asks c = c.asked-new.ensures ∙ ap (λ (x : LinePair). asked_by x.one c.args.at c.args.task) c.lines_of-lines.ensures

-- the rows that are tested
rows : (c : After-chain_refusal) → allowed_in c.args.self.now (Chain c.args.at c.args.task) ≡ c.chain_refusal.result
rows c =
    let s = c.args.self.now in
    sym (c.chain_refusal.ensures ∙ ap (chain_refusal s.last s.table.count s.list) (asks c))

-- where the call is accepted a job ends
ends : (c : In_default) → Ends c.args.self.now c.args.at
ends c =
    let s = c.args.self.now in
    chain_ends s c.requires c.args.at c.args.task (at_0 s c.requires (Chain c.args.at c.args.task) (rows c.before ∙ c.in_default.is))

pub chain_refusal-requires : goal.chain_refusal-requires
chain_refusal-requires c = handed_shaped c.args.self.now c.requires

pub returns-in-Err : goal.returns-in-Err
returns-in-Err c =
    refused_leaves c.args.self.now c.requires (Chain c.args.at c.args.task) c.in-Err.refusal (rows (goal.at.returns-in-Err c).After-chain_refusal ∙ c.in-Err.is) _ c.refused.ensures

pub report_end-late-requires : goal.report_end-late-requires
report_end-late-requires c =
    let s = c.args.self.now in
    (handed_shaped s c.requires, handed_sorted s c.requires, short_line s c.requires _ _ (ap (λ (x : LinePair). x.other) c.lines_of-lines.ensures), (ends (goal.at.report_end-late-requires c).In_default).in_time)

pub replace_first-lead-requires : goal.replace_first-lead-requires
replace_first-lead-requires c =
    rw c.report_end-late.ensures.0 (handed_shaped c.args.self.now c.requires, (ends (goal.at.replace_first-lead-requires c).In_default).some_one)

pub returns : goal.returns
unfolding chained_in settled_in asked_of
returns c =
    let s = c.args.self.now in
    let at = c.args.at in
    let n = c.args.task in
    let e = Chain at n in
    let a = asks (goal.at.returns c).After-chain_refusal in
    let p = c.report_end-late.ensures.0 ∙ ended_is s at _ (ap (λ (x : LinePair). x.other) c.lines_of-lines.ensures ∙ ap (λ (x : Entry). line_at s.table.lines x.task) c.first.ensures) in
    let l : c.report_end-late.new.self.list ≡ s.list = ap (λ (x : State). x.list) p in
    let j : c.job.result ≡ job_as n (asked_of s.table at n).due Delayed = c.job.ensures ∙ ap (λ (x : Activation). job_as x.task x.due Delayed) a in
    let k : c.replace_first-lead.new.self ≡ (change_in s e).list = c.replace_first-lead.ensures.0 ∙ (λ i. pack (release_first (insert_due (j i) (drop 1 (view (l i)))))) in
    let f : c.settle_call.result ≡ (change_in s e).call = c.settle_call.ensures ∙ ap settle_of (c.replace_first-lead.ensures.1 ∙ (λ i. lead_of (insert_due (j i) (drop 1 (view (l i)))))) in
    accepted_leaves s c.requires e (rows (goal.at.returns c).After-chain_refusal ∙ c.in_default.is) at (tallied_in s.table (view s.list) at (late_counted (late_of s at) s.monitor)) (change_in s e) refl _
    (λ i. record { table = (p i).table; last = (p i).last; list = k i; monitor = (p i).monitor }) _ f _ c.report_end-late.ensures.1 _ c.accepted.ensures
