-- Demand 3: on a table that keeps the rule the kernel runs what the plain scheduler runs, after each call. Assumes nothing.
use Prim.Native.Nat.{ℕ, zero, suc}
use mathlib.Core.Path.{◌≡◌, refl, ap, sym, ◌∙◌, subst}
use mathlib.Core.Logic.{◌↔◌}
use mathlib.Core.List.{List, [], ◌∷◌, map}
use lib.ListN.{length, length-map}
use lib.Dec.{eqb}
use Rattle.rules.specs.declared.Tick.{Tick}
use Rattle.rules.specs.declared.Call.{Call}
use Rattle.rules.specs.declared.Call.TheVariants.{Wait, Activate, Terminate, Chain}
use Rattle.std.specs.Prelude.{None}
use Rattle.rules.specs.Words.{unless, count_by, count, insert_by}
use Rattle.rules.specs.Table.{Table, Keeps, priority_of}
use Rattle.rules.specs.Jobs.{Job, Pending, accepted, bare, before}
use Rattle.rules.specs.Kernel.{dispatched}
use Rattle.rules.specs.Calls.{View, refusal, tick_of}
use Rattle.rules.specs.Layer.{Board, fresh, without, moves, marked, done, next, result, viewed, shown, choice, running, running_job, tasks}
use Rattle.rules.specs.Plain.{Plain, start, plain_others, plain_runs, plain_tasks, plain_viewed, plain_result, plain_moved, plain_next, plain_run, plain_choice}
use Rattle.rules.specs.Run.{run}
use Rattle.rules.specs.Statement.{first_task, Agree, Demand3, Demand3Answers}
use Rattle.rules.proofs.Lists.{rest_of, count_map}
use Rattle.rules.proofs.Bare.{tasks_bare, bare_after, moved_bare}
use Rattle.rules.proofs.Order.{Higher, ranks}
use Rattle.rules.proofs.Sorted.{sorted, runs_of, task_of, choice_sorted, others_sorted, runs_sorted, count_sorted, length_sorted}
use Rattle.rules.proofs.Invariant.{Good}
use Rattle.rules.proofs.Step.{done_good}
use Rattle.rules.proofs.First.{first_of, top_first, leaves, runs_first}

-- the layer's list is the plain scheduler's jobs in order
pub record Related (T : Table) (b : Board) (p : Plain) : Type 0 where
  pub last : b.last ≡ p.last
  pub list : map bare b.jobs ≡ sorted T p.pending

-- ---- two views are alike to a call if what it looks at is

module _ (T : Table) (v w : View) (a : v.last ≡ w.last) where
  alike_wait : (t : Tick) → refusal T v (Wait t) ≡ refusal T w (Wait t)
  unfolding refusal
  alike_wait t = rw a

  alike_activate : (t : Tick) (n : ℕ) → count n v.pending ≡ count n w.pending → length v.pending ≡ length w.pending → refusal T v (Activate t n) ≡ refusal T w (Activate t n)
  unfolding refusal
  alike_activate t n c s = rw (a, c, s)

  alike_end : (t : Tick) → v.runs ≡ w.runs → refusal T v (Terminate t) ≡ refusal T w (Terminate t)
  unfolding refusal
  alike_end t r = rw (a, r)

  alike_chain : (t : Tick) (n : ℕ) → v.runs ≡ w.runs → count n v.others ≡ count n w.others → refusal T v (Chain t n) ≡ refusal T w (Chain t n)
  unfolding refusal
  alike_chain t n r o = rw (a, r, o)

-- ---- a list of jobs and what the plain scheduler knows of them

first_bare : (l : List Job) → first_task l ≡ task_of (map bare l)
first_bare [] = refl
first_bare (j ∷ l) = refl

shown_bare : (l : List Job) → shown (first_of l) ≡ runs_of (map bare l)
shown_bare [] = refl
shown_bare (j ∷ l) = refl

rest_bare : (l : List Job) → map bare (rest_of l) ≡ rest_of (map bare l)
rest_bare [] = refl
rest_bare (j ∷ l) = refl

count_tasks : (T : Table) (n : ℕ) (l : List Job) (p : List Pending) → map bare l ≡ sorted T p → count n (tasks l) ≡ count n (plain_tasks p)
count_tasks T n l p e =
    ap (count n) (tasks_bare l ∙ ap plain_tasks e) ∙ count_map (eqb n) (λ (j : Pending). j.task) (sorted T p)
    ∙ count_sorted T (λ (j : Pending). eqb n j.task) p ∙ sym (count_map (eqb n) (λ (j : Pending). j.task) p)

-- ---- one call

module _ (T : Table) (keeps : Keeps T) (b : Board) (p : Plain) (g : Good T (Higher T) b) (r : Related T b p) where
  -- a job that may end is the one that priority picks
  top : running T b ≡ dispatched (priority_of T) b.ready
  top = refl

  runs_alike : running T b ≡ plain_runs T p.pending
  runs_alike = top_first T keeps b.last b.jobs b.ready g (running T b) top ∙ first_bare b.jobs ∙ ap task_of r.list ∙ sym (runs_sorted T p.pending)

  rest_list : map bare (without (running T b) b.jobs) ≡ sorted T (plain_others T p.pending)
  rest_list =
      ap (map bare) (leaves T keeps b.last b.jobs b.ready g (running T b) top) ∙ rest_bare b.jobs ∙ ap rest_of r.list ∙ sym (others_sorted T p.pending)

  pub results_alike : (e : Call) → result T b e ≡ plain_result T p e
  results_alike (Wait t) = alike_wait T (viewed T b) (plain_viewed T p) r.last t
  results_alike (Activate t n) =
      alike_activate T (viewed T b) (plain_viewed T p) r.last t n (count_tasks T n b.jobs p.pending r.list)
      (ap length (tasks_bare b.jobs ∙ ap plain_tasks r.list) ∙ length-map (sorted T p.pending) (λ (j : Pending). j.task) ∙ length_sorted T p.pending ∙ sym (length-map p.pending (λ (j : Pending). j.task)))
  results_alike (Terminate t) = alike_end T (viewed T b) (plain_viewed T p) r.last t runs_alike
  results_alike (Chain t n) =
      alike_chain T (viewed T b) (plain_viewed T p) r.last t n runs_alike
      (count_tasks T n (without (running T b) b.jobs) (plain_others T p.pending) rest_list)

  moved_list : (e : Call) → map bare (moves T (marked (tick_of e) b) e).jobs ≡ sorted T (plain_moved T p.pending e)
  moved_list e = moved_bare T (running T b) b.jobs e ∙ by e
    where
      by : (e : Call) → bare_after T (running T b) b.jobs e ≡ sorted T (plain_moved T p.pending e)
      by (Wait t) = r.list
      by (Activate t n) = ap (insert_by (before T) (accepted T t n)) r.list
      by (Terminate t) = rest_list
      by (Chain t n) = ap (insert_by (before T) (accepted T t n)) rest_list

  pub runs_job : running_job T b ≡ first_of b.jobs
  runs_job = runs_first T keeps b.last b.jobs b.ready g (running T b) top

  pub same_choice : choice T b ≡ plain_choice T p.pending
  same_choice = ap shown runs_job ∙ shown_bare b.jobs ∙ ap runs_of r.list ∙ sym (choice_sorted T p.pending)

-- both, after any calls
pub record Both (T : Table) (b : Board) (p : Plain) : Type 0 where
  pub good : Good T (Higher T) b
  pub related : Related T b p

next_by : (T : Table) → Keeps T → (b : Board) (p : Plain) → Both T b p → (e : Call) (k : ℕ) → result T b e ≡ k
    → Both T (unless k b (done T (marked (tick_of e) b) e)) (unless k p (record { last = tick_of e; pending = plain_moved T p.pending e }))
next_by T keeps b p h e zero z =
    record { good = done_good T (Higher T) (ranks T keeps) b h.good e z; related = record { last = refl; list = moved_list T keeps b p h.good h.related e } }
next_by T keeps b p h e (suc k) z = h

pub next_both : (T : Table) → Keeps T → (b : Board) (p : Plain) → Both T b p → (e : Call) → Both T (next T b e) (plain_next T p e)
next_both T keeps b p h e =
    subst (λ (k : ℕ). Both T (next T b e) (unless k p (record { last = tick_of e; pending = plain_moved T p.pending e })))
    (results_alike T keeps b p h.good h.related e) (next_by T keeps b p h e (result T b e) refl)

pub run_both : (T : Table) → Keeps T → (b : Board) (p : Plain) → Both T b p → (es : List Call) → Both T (run T b es) (plain_run T p es)
run_both T keeps b p h [] = h
run_both T keeps b p h (e ∷ es) = run_both T keeps (next T b e) (plain_next T p e) (next_both T keeps b p h e) es

pub fresh_both : (T : Table) → Both T fresh start
fresh_both T = record { good = record { sound = tt; lined = record { ordered = tt; first = tt; queue = refl } }; related = record { last = refl; list = refl } }

idle_first : (l : List Job) → (shown (first_of l) ≡ None) ↔ (l ≡ [])
idle_first [] = (λ e. refl, λ e. refl)
idle_first (j ∷ l) = (λ e. cc, λ e. cc)

pub agrees : (T : Table) → Keeps T → (b : Board) (p : Plain) → Both T b p → Agree T b p
agrees T keeps b p h =
    record {
      same = same_choice T keeps b p h.good h.related;
      idle = rw (runs_job T keeps b p h.good h.related) (idle_first b.jobs);
      tick = h.related.last;
      jobs = λ test. ap (count_by test) h.related.list ∙ count_sorted T test p.pending;
      results = results_alike T keeps b p h.good h.related;
    }

pub demand_3 : Demand3
demand_3 T keeps calls = agrees T keeps (run T fresh calls) (plain_run T start calls) (run_both T keeps fresh start (fresh_both T) calls)

pub demand_3_answers : Demand3Answers
demand_3_answers T keeps calls e =
    let h = run_both T keeps fresh start (fresh_both T) calls in
    let b = run T fresh calls in
    let p = plain_run T start calls in
    record {
      result = results_alike T keeps b p h.good h.related e;
      running = (agrees T keeps (next T b e) (plain_next T p e) (next_both T keeps b p h e)).same;
    }
