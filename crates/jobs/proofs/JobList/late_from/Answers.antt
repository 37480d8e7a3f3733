-- `JobList::late_from` meets its contract. Assumes nothing.
use mathlib.Core.Path.{◌≡◌, refl, sym, ap, ◌∙◌}
use mathlib.Core.List.{List, ◌∷◌}
use Prim.Native.Nat.{suc, ◌+◌, ◌<◌, ◌≤◌}
use native.Mathlib.Omega.{arith}
use lib.ListN.{length, drop, get_or, drop_of_length-le}
use lib.Seq.{drop-cons}
use Rattle.rules.specs.declared.Job.{Job}
use Rattle.jobs.specs.Listed.{blank_job, view}
use Rattle.jobs.proofs.Lates.{late_scan, scan_none, scan_stop, scan_next, step_count, none_count, scan_law}
use Rattle.jobs.proofs.JobList.late_from.Goals as goal

-- what is pending from place i on begins with the job there
step : (xs ys : List Job) (i : _) → xs ≡ ys → i < length xs → drop i ys ≡ get_or xs i blank_job ∷ drop (i + 1) ys
step xs ys i e h =
    let q : suc i ≡ i + 1 = omega arith in
    ap (drop i) (sym e) ∙ drop-cons xs i blank_job h ∙ (λ w. get_or xs i blank_job ∷ drop (q w) (e w))

pub loop-job-init : goal.loop-job-init
loop-job-init c = record { few = omega (arith, none_count c.none_late-late.result c.none_late-late.ensures); turns = refl }

pub loop-job-preserved : goal.loop-job-preserved
loop-job-preserved c =
    let l = c.loop-job in
    let a = c.args in
    let xs = c.pending-job-items.result.now in
    let job = get_or xs l.job-index blank_job in
    let v = step xs (view a.self) l.job-index c.pending-job-items.ensures c.loop-job-test.true in
    let turn = ap (late_scan a.last a.at l.late) v ∙ scan_next a.last a.at l.late job _ (sym c.is_past.ensures ∙ c.if-not-is_past.false) in
    let k : c.late_step-late.result.count ≤ l.job-index + 1 = rw c.late_step-late.ensures (omega (arith, step_count a.last l.late job)) in
    record { few = k; turns = rw c.late_step-late.ensures (sym turn ∙ l.invariant.turns) }

pub returns-then-not-is_past : goal.returns-then-not-is_past
returns-then-not-is_past c =
    let l = c.loop-job in
    let a = c.args in
    let v = step c.pending-job-items.result.now (view a.self) l.job-index c.pending-job-items.ensures c.loop-job-test.true in
    let stop = ap (late_scan a.last a.at l.late) v ∙ scan_stop a.last a.at l.late _ _ (sym c.is_past.ensures ∙ c.if-not-is_past.true) in
    sym stop ∙ l.invariant.turns ∙ scan_law a.last a.at _ a.self c.none_late-late.ensures c.requires.0 c.requires.1

pub returns-after-loop-job : goal.returns-after-loop-job
returns-after-loop-job c =
    let l = c.loop-job in
    let a = c.args in
    let m : length (view a.self) ≤ l.job-index = rw (← c.pending-job-items.ensures) c.loop-job-test.false in
    let end = ap (late_scan a.last a.at l.late) (drop_of_length-le (view a.self) m) ∙ scan_none a.last a.at l.late in
    sym end ∙ l.invariant.turns ∙ scan_law a.last a.at _ a.self c.none_late-late.ensures c.requires.0 c.requires.1
