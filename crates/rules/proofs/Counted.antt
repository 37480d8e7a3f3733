-- The kept tallies are what the accepted calls add up to. Assumes nothing.
use Prim.Native.Nat.{ℕ, zero, suc, ◌+◌, ◌<◌, ◌≤◌, min, max}
use mathlib.Core.Path.{◌≡◌, refl, ap, sym, ◌∙◌, subst}
use mathlib.Core.Bool.{Bool, true, false, cond}
use mathlib.Core.List.{List, [], ◌∷◌, ◌++◌, map}
use mathlib.Core.Option.{Option, some, none}
use lib.ListN.{length, get_or, get_or-replicate}
use lib.Seq.{lt-length-set, get_or-set_same, get_or-set_other}
use lib.Dec.{ltb, eqb}
use native.Mathlib.Omega.{arith}
use borrow.Author.Tests.{ltb-true, ltb-false, eqb-true, eqb-false}
use Rattle.rules.specs.declared.Tick.{Tick}
use Rattle.rules.specs.declared.Call.{Call}
use Rattle.rules.specs.declared.Tally.{Tally}
use Rattle.rules.specs.Words.{unless, count_by, count}
use Rattle.rules.specs.Table.{Table}
use Rattle.rules.specs.Jobs.{Job, Pending, bare}
use Rattle.rules.specs.Late.{newly_late}
use Rattle.rules.specs.Calls.{tick_of}
use Rattle.rules.specs.Layer.{fresh, Board, result, tasks, late_tasks}
use Rattle.rules.specs.Counts.{no_tally, no_tallies, most, up, late_more, ended_more, on_task, with_late, response_of, with_ended, ending, tallied}
use Rattle.rules.specs.Run.{Head, fresh_head, head_next, head_run}
use Rattle.rules.proofs.Lists.{count_map}
use Rattle.rules.proofs.Along.{balance}
use Rattle.rules.specs.Statement.{added_up, CountsAddUp}
use Rattle.rules.specs.History.{along, Ended, ended_at, ended_by, endings, ended_of, greatest_of, reported_by}

-- ---- one count

-- k is kept, p more are to come, and the end is w
abbrev Comes : ℕ → ℕ → ℕ → Type 0
Comes w p k = (k ≤ most) × (min (k + p) most ≡ w)

-- one has come: a count that stands still is at the end already
one_up : (w p k : ℕ) → Comes w (suc p) k → Comes w p (up k)
one_up w p k h = go (ltb k most) refl
  where
    go : (t : Bool) → ltb k most ≡ t → Comes w p (cond t (suc k) k)
    go true e = let l = ltb-true k most e in omega arith
    go false e = let l = ltb-false k most e in omega arith

-- ---- one tally

-- c is kept, so many late and ended jobs and that response are to come, and the end is w
record Fits (w : Tally) (p q r : ℕ) (c : Tally) : Type 0 where
  late : Comes w.late p c.late
  ended : Comes w.ended q c.ended
  response : max c.response r ≡ w.response

-- a late job has come, where the test says so
late_comes : (w : Tally) (p q r : ℕ) (c : Tally) (t : Bool) → Fits w (cond t (suc p) p) q r c → Fits w p q r (cond t (late_more c) c)
late_comes w p q r c true h = record { late = one_up w.late p c.late h.late; ended = h.ended; response = h.response }
late_comes w p q r c false h = h

-- an ended job has come, where the test says so
ended_comes : (w : Tally) (p q r s : ℕ) (c : Tally) (t : Bool) → Fits w p (cond t (suc q) q) (cond t (max s r) r) c
    → Fits w p q r (cond t (ended_more s c) c)
ended_comes w p q r s c true h =
    record { late = h.late; ended = one_up w.ended q c.ended h.ended; response = omega arith }
ended_comes w p q r s c false h = h

-- nothing is to come: c is the end
all_came : (w c : Tally) → Fits w 0 0 0 c → c ≡ w
all_came w c h =
    let late : c.late ≡ w.late = omega arith in
    let ended : c.ended ≡ w.ended = omega arith in
    let response : c.response ≡ w.response = omega arith in
    λ i. record { late = late i; ended = ended i; response = response i }

-- ---- the tallies, read at one task

-- the tally of task n
abbrev of_task : ℕ → List Tally → Tally
of_task n c = get_or c n no_tally

-- a change of task m's tally is seen at m alone
on_task_lem : (n m : ℕ) (f : Tally → Tally) (c : List Tally) → n < length c
    → of_task n (on_task m f c) ≡ cond (eqb n m) (f (of_task n c)) (of_task n c)
on_task_lem n m f c known = go (eqb n m) refl
  where
    go : (t : Bool) → eqb n m ≡ t → of_task n (on_task m f c) ≡ cond t (f (of_task n c)) (of_task n c)
    go true e =
        subst (λ (k : ℕ). of_task n (on_task k f c) ≡ f (of_task n c)) (eqb-true n m e)
        (get_or-set_same c n (f (of_task n c)) no_tally known)
    go false e = get_or-set_other c m n (f (of_task m c)) no_tally (eqb-false n m e)

module _ (n : ℕ) (w : Tally) where
  -- c is kept for task n, the late tasks l and the ended jobs x are to come, and the end is w
  abbrev Awaits : List ℕ → List Ended → Tally → Type 0
  Awaits l x c = Fits w (count n l) (ended_of n x) (greatest_of n x) c

  -- the same, read in the tallies of all tasks
  record Due (l : List ℕ) (x : List Ended) (c : List Tally) : Type 0 where
    known : n < length c
    awaits : Awaits l x (of_task n c)

  -- task m's tally was changed: from what that does to task n's
  changed : (l : List ℕ) (x : List Ended) (c : List Tally) (m : ℕ) (f : Tally → Tally) → n < length c
      → Awaits l x (cond (eqb n m) (f (of_task n c)) (of_task n c)) → Due l x (on_task m f c)
  changed l x c m f known h =
      record {
        known = lt-length-set c m (f (of_task m c)) known;
        awaits = subst (Awaits l x) (sym (on_task_lem n m f c known)) h;
      }

  -- late tasks have come, one by one
  lates_come : (k l : List ℕ) (x : List Ended) (c : List Tally) → Due (k ++ l) x c → Due l x (with_late k c)
  lates_come [] l x c h = h
  lates_come (m ∷ k) l x c h =
      lates_come k l x (on_task m late_more c)
      (changed (k ++ l) x c m late_more h.known
      (late_comes w (count n (k ++ l)) (ended_of n x) (greatest_of n x) (of_task n c) (eqb n m) h.awaits))

  -- the job that ends has come, if there is one
  ending_comes : (t : Tick) (o : Option Job) (l : List ℕ) (x : List Ended) (c : List Tally) → Due l (ended_at t o ++ x) c → Due l x (with_ended t o c)
  ending_comes t none l x c h = h
  ending_comes t (some j) l x c h =
      changed l x c j.task (ended_more (response_of t (bare j))) h.known
      (ended_comes w (count n l) (ended_of n x) (greatest_of n x) (response_of t (bare j)) (of_task n c) (eqb n j.task) h.awaits)

  -- a call brings what it reports and ends; a refused one brings nothing
  call_comes : (T : Table) (b : Board) (e : Call) (l : List ℕ) (x : List Ended) (c : List Tally)
      → Due (late_tasks T b e ++ l) (ended_by T b e ++ x) c → Due l x (tallied T b e c)
  call_comes T b e l x c = go (result T b e)
    where
      late : List ℕ
      late = tasks (newly_late (tick_of e) b.jobs)

      ends : List Ended
      ends = ended_at (tick_of e) (ending T b e)

      go : (k : ℕ) → Due (unless k [] late ++ l) (unless k [] ends ++ x) c
          → Due l x (unless k c (with_ended (tick_of e) (ending T b e) (with_late (unless k [] late) c)))
      go zero h = ending_comes (tick_of e) (ending T b e) l x (with_late late c) (lates_come late l (ends ++ x) c h)
      go (suc k) h = h

  -- after all calls nothing is to come
  calls_come : (T : Table) (h : Head) (calls : List Call) → Due (along T (late_tasks T) h.board calls) (along T (ended_by T) h.board calls) h.tallies
      → Due [] [] (head_run T h calls).tallies
  calls_come T h [] d = d
  calls_come T h (e ∷ es) d =
      let k = head_next T h e in
      calls_come T k es (call_comes T h.board e (along T (late_tasks T) k.board es) (along T (ended_by T) k.board es) h.tallies d)

-- ---- the late tasks of an answer are those of the jobs that it reports

late_count : (T : Table) (n : ℕ) (b : Board) (e : Call) → count n (late_tasks T b e) ≡ count_by (λ (j : Pending). eqb n j.task) (reported_by T b e)
late_count T n b e = go (result T b e)
  where
    late : List Job
    late = newly_late (tick_of e) b.jobs

    go : (k : ℕ) → count n (unless k [] (tasks late)) ≡ count_by (λ (j : Pending). eqb n j.task) (unless k [] (map bare late))
    go zero = count_map (eqb n) (λ (j : Job). j.task) late ∙ sym (count_map (λ (j : Pending). eqb n j.task) bare late)
    go (suc k) = refl

lates_count : (T : Table) (n : ℕ) (calls : List Call) → count n (along T (late_tasks T) fresh calls) ≡ count_by (λ (j : Pending). eqb n j.task) (along T (reported_by T) fresh calls)
lates_count T n calls =
    let h = balance T (λ b. Unit {0}) (λ b i e. tt) (late_tasks T) (eqb n) (reported_by T) (λ (j : Pending). eqb n j.task) (λ b. 0) (λ b i e. ap (λ z. z + 0) (late_count T n b e)) fresh tt calls in
    omega arith

-- at the start every tally is 0, and all is to come
pub counts_add_up : CountsAddUp
counts_add_up T calls n below = all_came w (of_task n (head_run T fresh_head calls).tallies) (calls_come n w T fresh_head calls start).awaits
  where
    w : Tally
    w = added_up T calls n

    to_come : Tally → Type 0
    to_come = Awaits n w (along T (late_tasks T) fresh calls) (endings T calls)

    start : Due n w (along T (late_tasks T) fresh calls) (endings T calls) no_tallies
    start =
        let h = lates_count T n calls in
        record { known = below; awaits = subst to_come (sym (get_or-replicate 32 n no_tally no_tally below)) (omega arith) }
