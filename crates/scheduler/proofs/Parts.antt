-- The parts of a call, on jobs as they are kept, are what the rule-book says of the jobs. Assumes nothing.
use Prim.Native.Nat.{ℕ, suc}
use mathlib.Core.Path.{◌≡◌, refl, sym, ap, ◌∙◌}
use mathlib.Core.Bool.{Bool, true, false, cond, not, ◌&&◌}
use mathlib.Core.List.{List, [], ◌∷◌, map}
use native.Mathlib.Omega.{arith}
use lib.Dec.{eqb}
use lib.ListN.{length, length-map, drop}
use Rattle.rules.specs.declared.Job.{Job as Entry}
use Rattle.rules.specs.declared.Tick.{Tick}
use Rattle.rules.specs.declared.Line.{Line}
use Rattle.rules.specs.declared.Phase.{Phase}
use Rattle.rules.specs.declared.Phase.TheVariants.{Delayed, Released}
use Rattle.rules.specs.declared.Tally.{Tally}
use Rattle.rules.specs.declared.KernelCall.TheVariants.{NoCall, ActivateTask, TerminateTask}
use Rattle.rules.specs.Words.{only, count, All}
use Rattle.rules.specs.Table.{Table, deadline_of}
use Rattle.rules.specs.Jobs.{Job, Pending, bare, new_job, before, key_at}
use Rattle.rules.specs.Late.{is_past, newly_late, marked_at}
use Rattle.rules.specs.Layer.{Moved, insert, is_first, entered, settled_by, settled, shown, tasks}
use Rattle.rules.specs.Counts.{ended_more, on_task, with_ended, response_of}
use Rattle.rules.proofs.Lists.{rest_of, map_insert, pairs_over}
use Rattle.rules.proofs.First.{first_of}
use Rattle.rules.proofs.Invariant.{Sound, Ahead, Ordered}
use Rattle.rules.proofs.Marks.{Marked}
use Rattle.ticks.specs.Ticks.{response_by}
use Rattle.table.specs.Lines.{packed, line_at}
use Rattle.jobs.specs.Listed.{pack, goes_before, Sorted, is_first_in, insert_due, first_in, release_first, pending_of, is_newly_late}
use Rattle.monitor.specs.Tallies.{counts}
use Rattle.scheduler.specs.Steps.{Change, choice_in, job_as, entered_as, entered_in, settle_as, settled_in, chained_in, response_in, tallied_in}
use Rattle.scheduler.specs.State.{kept}
use Rattle.scheduler.proofs.Back.{line_is}

-- ---- lists

pub length_kept : (l : List Job) → length (map kept l) ≡ length l
length_kept l = length-map l kept

pub length_tasks : (l : List Job) → length (map kept l) ≡ length (tasks l)
length_tasks l = length-map l kept ∙ sym (length-map l (λ (j : Job). j.task))

-- a mark is not kept
pub kept_marked : (t : Tick) (l : List Job) → map kept (map (marked_at t) l) ≡ map kept l
kept_marked t [] = refl
kept_marked t (j ∷ l) = ap (λ (z : List Entry). kept j ∷ z) (kept_marked t l)

pub pending_is : (n : ℕ) (l : List Job) → pending_of n (map kept l) ≡ count n (tasks l)
unfolding pending_of
pending_is n [] = refl
pending_is n (j ∷ l) = ap (λ z. cond (eqb n j.task) (suc z) z) (pending_is n l)

pub drop_is : (l : List Job) → drop 1 (map kept l) ≡ map kept (rest_of l)
drop_is [] = refl
drop_is (j ∷ l) = refl

-- ---- the order, the one place where the code's test meets the rule-book's

pub insert_is : (T : Table) (j : Job) (l : List Job) → insert_due (kept j) (map kept l) ≡ map kept (insert (before T) j l)
unfolding insert_due before key_at
insert_is T j l = sym (map_insert kept goes_before j l)

first_is : (T : Table) (j : Pending) (l : List Job) → is_first_in (job_as j.task j.due Delayed) (map kept l) ≡ is_first (before T) j l
unfolding is_first_in before key_at
first_is T j [] = refl
first_is T j (k ∷ l) = refl

pub sorted_is : (T : Table) (P : ℕ → ℕ → Type 0) (l : List Job) → Ordered T P l → Sorted (map kept l)
unfolding before key_at
sorted_is T P l o = pairs_over (λ j k. Ahead T P (bare j) k) (λ (x y : Entry). goes_before y x ≡ false) kept (λ j k a. a.order) l o

-- ---- what runs, what is late

pub choice_is : (l : List Job) → choice_in (map kept l) ≡ shown (first_of l)
choice_is [] = refl
choice_is (j ∷ l) = refl

abbrev tasks_in : List Entry → List ℕ
tasks_in xs = map (λ (x : Entry). x.task) xs

pub late_is : (last t : Tick) (l : List Job) → All (Marked last) l → tasks_in (only (is_newly_late last t) (map kept l)) ≡ tasks (newly_late t l)
late_is last t [] m = refl
late_is last t (j ∷ l) m =
    go (is_past last j.due) j.reported (sym m.0.mark) (late_is last t l m.1)
  where
    go : (p q : Bool) → p ≡ q → tasks_in (only (is_newly_late last t) (map kept l)) ≡ tasks (newly_late t l)
        → tasks_in (cond (is_past t j.due && not p) (kept j ∷ only (is_newly_late last t) (map kept l)) (only (is_newly_late last t) (map kept l)))
        ≡ tasks (cond (is_past t j.due && not q) (j ∷ newly_late t l) (newly_late t l))
    go p q e ih = ap (λ z. tasks_in (cond (is_past t j.due && not z) (kept j ∷ only (is_newly_late last t) (map kept l)) (only (is_newly_late last t) (map kept l)))) e ∙ same (is_past t j.due && not q) ih
      where
        same : (c : Bool) → tasks_in (only (is_newly_late last t) (map kept l)) ≡ tasks (newly_late t l)
            → tasks_in (cond c (kept j ∷ only (is_newly_late last t) (map kept l)) (only (is_newly_late last t) (map kept l))) ≡ tasks (cond c (j ∷ newly_late t l) (newly_late t l))
        same true ih = ap (λ z. j.task ∷ z) ih
        same false ih = ih

-- ---- what moves

abbrev pub change_of : Moved → Change
change_of m = record { list = pack (map kept m.jobs); call = m.call }

pub entered_is : (T : Table) (j : Pending) (l : List Job) → entered_in j.task j.due (map kept l) ≡ change_of (entered (before T) j l (is_first (before T) j l))
unfolding entered_in
entered_is T j l = ap (entered_as j.task j.due (map kept l)) (first_is T j l) ∙ go (is_first (before T) j l)
  where
    go : (f : Bool) → entered_as j.task j.due (map kept l) f ≡ change_of (entered (before T) j l f)
    go true = ap (λ (z : List Entry). record { list = pack z; call = ActivateTask j.task }) (insert_is T (new_job Released j) l)
    go false = ap (λ (z : List Entry). record { list = pack z; call = NoCall }) (insert_is T (new_job Delayed j) l)

pub settled_is : (l : List Job) → settled_in (map kept l) ≡ change_of (settled l)
unfolding settled_in release_first
settled_is [] = refl
settled_is (j ∷ l) = go j.phase refl
  where
    go : (p : Phase) → j.phase ≡ p → ◌≡◌ {A = Change} (record { list = pack (job_as j.task j.due Released ∷ map kept l); call = settle_as p j.task }) (change_of (settled_by p j l))
    go Delayed e = refl
    go Released e = ap (λ (q : Phase). record { list = pack (job_as j.task j.due q ∷ map kept l); call = TerminateTask }) (sym e)

pub chained_is : (T : Table) (j : Pending) (l : List Job) → chained_in j.task j.due (map kept l) ≡ change_of (settled (insert (before T) (new_job Delayed j) l))
unfolding chained_in
chained_is T j l = ap settled_in (insert_is T (new_job Delayed j) l) ∙ settled_is (insert (before T) (new_job Delayed j) l)

-- ---- what is counted

response_is : (T : Table) (now t : Tick) (j : Job) → Sound T now j → response_in (packed T.lines) (kept j) t ≡ response_of t (bare j)
unfolding response_in response_by
response_is T now t j s =
    let e : (line_at (packed T.lines).lines j.task).deadline.0 ≡ (deadline_of T j.task).0 = ap (λ (x : Line). x.deadline.0) (line_is T j.task) in
    omega (arith, e, s.made.dues)

pub ended_is : (T : Table) (now t : Tick) (j : Job) (l : List Job) (c : List Tally) → Sound T now j
    → tallied_in (packed T.lines) (map kept (j ∷ l)) t (counts c) ≡ counts (with_ended t (first_of (j ∷ l)) c)
unfolding tallied_in first_in
ended_is T now t j l c s = ap (λ k. counts (on_task j.task (ended_more k) c)) (response_is T now t j s)
