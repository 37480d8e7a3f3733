-- A whole call on a state is what the rule-book says of the table and head that the state keeps. Assumes nothing.
use Prim.Native.Nat.{ℕ, zero, suc, ◌-◌, ◌≤◌}
use mathlib.Core.Path.{◌≡◌, refl, sym, ap, ◌∙◌, subst}
use mathlib.Core.List.{List, [], ◌∷◌, map}
use mathlib.Core.Bool.{true}
use mathlib.Core.Option.{Option, some, none}
use native.Mathlib.Omega.{arith}
use lib.ListN.{length, replicate, drop}
use lib.Seq.{take-append_seam}
use Rattle.rules.specs.declared.Job.{Job as Entry}
use Rattle.rules.specs.declared.Tick.{Tick}
use Rattle.rules.specs.declared.Line.{Line}
use Rattle.rules.specs.declared.Tally.{Tally}
use Rattle.rules.specs.declared.Call.{Call}
use Rattle.rules.specs.declared.Call.TheVariants.{Wait, Activate, Terminate, Chain}
use Rattle.rules.specs.declared.KernelCall.TheVariants.{NoCall}
use Rattle.rules.specs.Words.{unless, All}
use Rattle.rules.specs.Table.{Table, plus, greatest, deadline_of}
use Rattle.rules.specs.Jobs.{Job, accepted}
use Rattle.rules.specs.Calls.{tick_of, is_idle}
use Rattle.rules.specs.Late.{newly_late, marked_at}
use Rattle.rules.specs.Layer.{Board, running, running_job, choice, shown, without, tasks, result, marked, moves, done, viewed, in_places}
use Rattle.rules.specs.Counts.{with_late, with_ended, ending}
use Rattle.rules.specs.Run.{Head, head_next, Reached}
use Rattle.rules.proofs.Invariant.{Sound}
use Rattle.rules.proofs.Moves.{without_marked}
use Rattle.rules.proofs.First.{first_of}
use Rattle.rules.proofs.Allowed.{Allowed, allowed}
use Rattle.rules.proofs.Reached.{reached_good, reached_marked, reached_next, reached_runs, reached_task, reached_leaves}
use Rattle.ticks.specs.Ticks.{sum}
use Rattle.ticks.proofs.Laws.{sum_near}
use Rattle.table.specs.Lines.{packed}
use Rattle.jobs.specs.Listed.{view, pack, late_in, newly_late_in}
use Rattle.jobs.proofs.Laid.{view_pack}
use Rattle.monitor.specs.declared.Monitor.{Monitor}
use Rattle.monitor.specs.Tallies.{counts, tasks_of}
use Rattle.scheduler.specs.declared.State.{State}
use Rattle.scheduler.specs.declared.Stepped.{Stepped}
use Rattle.scheduler.specs.State.{kept, state_of, told}
use Rattle.scheduler.specs.Steps.{Change, choice_in, asked_of, entered_in, settled_in, chained_in, late_of, late_counted, tallied_in, refused_of, accepted_of}
use Rattle.scheduler.proofs.Back.{line_is}
use Rattle.scheduler.proofs.Parts.{kept_marked, drop_is, choice_is, late_is, change_of, entered_is, settled_is, chained_is, ended_is}
use Rattle.rules.specs.Statement.{first_task, NothingRuns}

-- what the code makes of an accepted call
abbrev pub change_in : State → Call → Change
change_in s (Wait t) = record { list = s.list; call = NoCall }
change_in s (Activate t n) = entered_in n (asked_of s.table t n).due (view s.list)
change_in s (Terminate t) = settled_in (drop 1 (view s.list))
change_in s (Chain t n) = chained_in n (asked_of s.table t n).due (drop 1 (view s.list))

-- where no job ends, and where the first one does
abbrev pub moved_of : State → Tick → Change → Stepped
moved_of s t m = accepted_of s.table t (late_of s t) (late_counted (late_of s t) s.monitor) m

abbrev pub ended_of : State → Tick → Change → Stepped
ended_of s t m = accepted_of s.table t (late_of s t) (tallied_in s.table (view s.list) t (late_counted (late_of s t) s.monitor)) m

abbrev pub accepted_in : State → Call → Stepped
accepted_in s (Wait t) = moved_of s t (change_in s (Wait t))
accepted_in s (Activate t n) = moved_of s t (change_in s (Activate t n))
accepted_in s (Terminate t) = ended_of s t (change_in s (Terminate t))
accepted_in s (Chain t n) = ended_of s t (change_in s (Chain t n))

-- the tasks of late jobs stand in their places
tasks_back : (ts : List ℕ) → tasks_of (late_in ts) ≡ ts
unfolding late_in
tasks_back ts = take-append_seam ts (replicate (32 - length ts) 0)

module _ (T : Table) (h : Head) (r : Reached T h) where
  abbrev b : Board
  b = h.board

  abbrev lates : Tick → List ℕ
  lates t = tasks (newly_late t b.jobs)

  -- ---- late jobs, and what is counted

  late_same : (t : Tick) → newly_late_in b.last t (view (pack (map kept b.jobs))) ≡ late_in (lates t)
  unfolding newly_late_in
  late_same t =
      ap (newly_late_in b.last t) (view_pack (map kept b.jobs)) ∙ ap late_in (late_is b.last t b.jobs (reached_marked T h r))

  reported_same : (t : Tick) → late_counted (newly_late_in b.last t (view (pack (map kept b.jobs)))) (counts h.tallies) ≡ counts (with_late (lates t) h.tallies)
  unfolding late_counted
  reported_same t = ap (λ (z : List ℕ). counts (with_late z h.tallies)) (ap tasks_of (late_same t) ∙ tasks_back (lates t))

  moved_same : (t : Tick) (m : Change) → moved_of (state_of T h) t m ≡ accepted_of (packed T.lines) t (late_in (lates t)) (counts (with_late (lates t) h.tallies)) m
  unfolding state_of
  moved_same t m = λ i. accepted_of (packed T.lines) t (late_same t i) (reported_same t i) m

  -- the first job ends
  abbrev after_end : Tick → List Tally
  after_end t = with_ended t (running_job T b) (with_late (lates t) h.tallies)

  counted_first : (t : Tick) (c : List Tally) (l : List Job) → All (Sound T b.last) l → (is_idle (first_task l) ≡ true → ⊥)
      → tallied_in (packed T.lines) (map kept l) t (counts c) ≡ counts (with_ended t (first_of l) c)
  counted_first t c [] s n = absurd (n refl)
  counted_first t c (j ∷ l) s n = ended_is T b.last t j l c s.0

  counted_same : (t : Tick) → (is_idle (running T b) ≡ true → ⊥)
      → tallied_in (packed T.lines) (view (pack (map kept b.jobs))) t (counts (with_late (lates t) h.tallies)) ≡ counts (after_end t)
  counted_same t n =
      ap (λ (xs : List Entry). tallied_in (packed T.lines) xs t (counts (with_late (lates t) h.tallies))) (view_pack (map kept b.jobs))
      ∙ counted_first t (with_late (lates t) h.tallies) b.jobs (reached_good T h r).sound (λ e. n (ap is_idle (reached_task T h r) ∙ e))
      ∙ ap (λ (z : Option Job). counts (with_ended t z (with_late (lates t) h.tallies))) (sym (reached_runs T h r))

  ended_same : (t : Tick) (m : Change) → (is_idle (running T b) ≡ true → ⊥) → ended_of (state_of T h) t m ≡ accepted_of (packed T.lines) t (late_in (lates t)) (counts (after_end t)) m
  unfolding state_of
  ended_same t m n =
      (λ i. accepted_of (packed T.lines) t (late_same t i) (tallied_in (packed T.lines) (view (pack (map kept b.jobs))) t (reported_same t i)) m)
      ∙ ap (λ (c : Monitor). accepted_of (packed T.lines) t (late_in (lates t)) c m) (counted_same t n)

  -- ---- the list and the kernel call

  -- within reach, a job is due at t + D
  due_same : (t : Tick) (n : ℕ) → (plus t (deadline_of T n)).0 ≤ greatest.0 → (asked_of (packed T.lines) t n).due ≡ (accepted T t n).due
  unfolding asked_of
  due_same t n near = ap (λ (x : Line). sum t x.deadline) (line_is T n) ∙ sum_near t (deadline_of T n) near

  marked_list : (t : Tick) → view (pack (map kept b.jobs)) ≡ map kept (map (marked_at t) b.jobs)
  marked_list t = view_pack (map kept b.jobs) ∙ sym (kept_marked t b.jobs)

  marked_others : (t : Tick) → drop 1 (view (pack (map kept b.jobs))) ≡ map kept (without (running T b) (map (marked_at t) b.jobs))
  marked_others t =
      ap (drop 1) (view_pack (map kept b.jobs)) ∙ drop_is b.jobs ∙ ap (map kept) (sym (reached_leaves T h r))
      ∙ sym (kept_marked t (without (running T b) b.jobs)) ∙ ap (map kept) (sym (without_marked t (running T b) b.jobs))

  change_same : (e : Call) → Allowed T (viewed T b) e → change_in (state_of T h) e ≡ change_of (moves T (marked (tick_of e) b) e)
  unfolding state_of
  change_same (Wait t) a = ap (λ (xs : List Entry). record { list = pack xs; call = NoCall }) (sym (kept_marked t b.jobs))
  change_same (Activate t n) a =
      (λ i. entered_in n (due_same t n a.enters.reach i) (marked_list t i)) ∙ entered_is T (accepted T t n) (map (marked_at t) b.jobs)
  change_same (Terminate t) a = ap settled_in (marked_others t) ∙ settled_is (without (running T b) (map (marked_at t) b.jobs))
  change_same (Chain t n) a =
      (λ i. chained_in n (due_same t n a.enters.reach i) (marked_others t i)) ∙ chained_is T (accepted T t n) (without (running T b) (map (marked_at t) b.jobs))

  -- ---- the whole

  not_idle : (o : Option ℕ) → (NothingRuns o → ⊥) → is_idle o ≡ true → ⊥
  not_idle none n e = n refl
  not_idle (some k) n e = let z : ◌≡◌ {A = ℕ} 0 1 = cc in omega arith

  accepted_same : (e : Call) → Allowed T (viewed T b) e → accepted_in (state_of T h) e
      ≡ accepted_of (packed T.lines) (tick_of e) (late_in (lates (tick_of e))) (counts (with_ended (tick_of e) (ending T b e) (with_late (lates (tick_of e)) h.tallies))) (change_of (moves T (marked (tick_of e) b) e))
  accepted_same (Wait t) a = ap (moved_of (state_of T h) t) (change_same (Wait t) a) ∙ moved_same t _
  accepted_same (Activate t n) a = ap (moved_of (state_of T h) t) (change_same (Activate t n) a) ∙ moved_same t _
  accepted_same (Terminate t) a = ap (ended_of (state_of T h) t) (change_same (Terminate t) a) ∙ ended_same t _ (not_idle (running T b) a.runs)
  accepted_same (Chain t n) a = ap (ended_of (state_of T h) t) (change_same (Chain t n) a) ∙ ended_same t _ (not_idle (running T b) a.runs)

  -- the next board's first job runs
  runs_next : (e : Call) (k : ℕ) → result T b e ≡ k
      → running_job T (unless k b (done T (marked (tick_of e) b) e)) ≡ first_of (unless k b (done T (marked (tick_of e) b) e)).jobs
  runs_next e k z =
      subst (λ n. running_job T (unless n b (done T (marked (tick_of e) b) e)) ≡ first_of (unless n b (done T (marked (tick_of e) b) e)).jobs) z
      (reached_runs T (head_next T h e) (reached_next T h r e))

  choice_next : (e : Call) (k : ℕ) → result T b e ≡ k
      → choice_in (view (pack (map kept (unless k b (done T (marked (tick_of e) b) e)).jobs))) ≡ choice T (unless k b (done T (marked (tick_of e) b) e))
  choice_next e k z =
      ap choice_in (view_pack (map kept (unless k b (done T (marked (tick_of e) b) e)).jobs))
      ∙ choice_is (unless k b (done T (marked (tick_of e) b) e)).jobs ∙ ap shown (sym (runs_next e k z))

  -- the rule-book's answer and next head, given the result's number
  abbrev tells : Call → ℕ → Stepped
  tells e k =
      record {
        state = state_of T (record {
          board = unless k b (done T (marked (tick_of e) b) e);
          tallies = unless k h.tallies (with_ended (tick_of e) (ending T b e) (with_late (unless k [] (lates (tick_of e))) h.tallies));
        });
        answer = record {
          result = k;
          running = choice T (unless k b (done T (marked (tick_of e) b) e));
          call = unless k NoCall (moves T (marked (tick_of e) b) e).call;
          late = in_places (unless k [] (lates (tick_of e)));
        };
      }

  told_is : (e : Call) → told T h e ≡ tells e (result T b e)
  unfolding told
  told_is e = refl

  refused_tells : (e : Call) (k : ℕ) → result T b e ≡ suc k → refused_of (state_of T h) (suc k) ≡ tells e (suc k)
  unfolding refused_of state_of late_in
  refused_tells e k z =
      λ i. record { state = state_of T h; answer = record { result = suc k; running = choice_next e (suc k) z i; call = NoCall; late = in_places [] } }

  accepted_tells : (e : Call) → result T b e ≡ 0 → accepted_in (state_of T h) e ≡ tells e 0
  unfolding accepted_of state_of late_in
  accepted_tells e z =
      accepted_same e (allowed T (viewed T b) e z)
      ∙ (λ i.
      record {
        state = (tells e 0).state;
        answer = record { result = 0; running = choice_next e 0 z i; call = (moves T (marked (tick_of e) b) e).call; late = in_places (lates (tick_of e)) };
      })

  -- a refused call and an accepted one
  pub refused_is : (e : Call) → (result T b e ≡ 0 → ⊥) → refused_of (state_of T h) (result T b e) ≡ told T h e
  refused_is e n = go (result T b e) refl n ∙ sym (told_is e)
    where
      go : (k : ℕ) → result T b e ≡ k → (k ≡ 0 → ⊥) → refused_of (state_of T h) k ≡ tells e k
      go zero z n = absurd (n refl)
      go (suc k) z n = refused_tells e k z

  pub accepted_is : (e : Call) → result T b e ≡ 0 → accepted_in (state_of T h) e ≡ told T h e
  accepted_is e z = accepted_tells e z ∙ ap (tells e) (sym z) ∙ sym (told_is e)
