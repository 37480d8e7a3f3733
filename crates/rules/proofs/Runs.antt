-- What runs, on any table: a released job of the list; nothing exactly when nothing is pending. Assumes nothing.
use Prim.Native.Nat.{ℕ, suc, ◌≤◌}
use mathlib.Core.Path.{◌≡◌, refl, ap, sym, ◌∙◌}
use mathlib.Core.Logic.{◌⊎◌, inl, inr}
use mathlib.Core.Bool.{Bool, true, false, cond, ◌&&◌}
use mathlib.Core.List.{List, [], ◌∷◌, ◌++◌}
use mathlib.Core.Option.{some, none}
use lib.Dec.{eqb}
use native.Mathlib.Omega.{arith}
use borrow.Author.Tests.{eqb-true, eq-eqb}
use Rattle.rules.specs.declared.Phase.{Phase}
use Rattle.rules.specs.declared.Phase.TheVariants.{Delayed, Released}
use Rattle.rules.specs.Words.{count}
use Rattle.rules.specs.Table.{Table, priority_of}
use Rattle.rules.specs.Jobs.{Job}
use Rattle.rules.specs.Layer.{running, Board, fresh, running_job, running_in, is_of, is_released, without}
use Rattle.rules.specs.Run.{run}
use Rattle.rules.specs.Statement.{pushed, released_of, FirstReleased, Highest, Running, RunsReleased}
use Rattle.rules.proofs.Priority.{kernel_is_priority}
use Rattle.rules.proofs.Lists.{count_append}
use Rattle.rules.proofs.Bools.{and_true_both, absurd_bool}
use Rattle.rules.proofs.Order.{Other, others}
use Rattle.rules.proofs.Invariant.{Good, not_live}
use Rattle.rules.proofs.Step.{fresh_good}

-- the first released job of task n
record Found (n : ℕ) (l : List Job) : Type 0 where
  front : List Job
  job : Job
  back : List Job
  among : l ≡ front ++ (job ∷ back)
  is_released_lem : job.phase ≡ Released
  of_task : n ≡ job.task
  runs : running_in (some n) l ≡ some job
  others : without (some n) l ≡ front ++ back

is_live : (s : Phase) → is_released s ≡ true → s ≡ Released
is_live Delayed e = absurd_bool (sym e)
is_live Released e = refl

-- a job that is not the released one of task n does not count for it
other_count : (n : ℕ) (j : Job) (q : List ℕ) → is_of n j ≡ false → count n (pushed j.phase j.task q) ≡ count n q
other_count n j q e = go j.phase (eqb n j.task) refl e
  where
    go : (s : Phase) (t : Bool) → eqb n j.task ≡ t → (t && is_released s) ≡ false → count n (pushed s j.task q) ≡ count n q
    go Delayed t p e = refl
    go Released true p e = absurd_bool e
    go Released false p e =
        let z : count n (j.task ∷ []) ≡ 0 = ap (λ z. cond z 1 0) p in
        omega (arith, count_append (eqb n) q (j.task ∷ []))

-- a task of the queue has its job in the list
finds : (n : ℕ) (l : List Job) → 1 ≤ count n (released_of l) → Found n l
finds n [] h = absurd (omega arith)
finds n (j ∷ l) h = go (is_of n j) refl (finds n l)
  where
    go : (t : Bool) → is_of n j ≡ t → (1 ≤ count n (released_of l) → Found n l) → Found n (j ∷ l)
    go true e ih =
        let b = and_true_both (eqb n j.task) (is_released j.phase) e in
        record {
          front = [];
          job = j;
          back = l;
          among = refl;
          is_released_lem = is_live j.phase b.1;
          of_task = eqb-true n j.task b.0;
          runs = ap (λ z. cond z (some j) (running_in (some n) l)) e;
          others = ap (λ z. cond z l (j ∷ without (some n) l)) e;
        }
    go false e ih =
        let f = ih (omega (arith, other_count n j (released_of l) e)) in
        record {
          front = j ∷ f.front;
          job = f.job;
          back = f.back;
          among = ap (λ z. j ∷ z) f.among;
          is_released_lem = f.is_released_lem;
          of_task = f.of_task;
          runs = ap (λ z. cond z (some j) (running_in (some n) l)) e ∙ f.runs;
          others = ap (λ z. cond z l (j ∷ without (some n) l)) e ∙ ap (λ z. j ∷ z) f.others;
        }

-- what the kernel picks is in its queue
picks : (level : ℕ → ℕ) (q : List ℕ) (h : Highest level q) → 1 ≤ count h.task q
picks level q h =
    let n = h.task in
    let z : count n (n ∷ h.later) ≡ suc (count n h.later) = ap (λ z. cond z (suc (count n h.later)) (count n h.later)) (eq-eqb n n refl) in
    omega (arith, ap (count n) h.among, count_append (eqb n) h.sooner (n ∷ h.later))

runs_one : (T : Table) (b : Board) → Good T Other b → Highest (priority_of T) b.ready → Running T b
runs_one T b g h =
    let f = finds h.task b.jobs (omega (arith, picks (priority_of T) b.ready h, ap (count h.task) g.lined.queue)) in
    record {
      front = f.front;
      job = f.job;
      back = f.back;
      among = f.among;
      is_released_lem = f.is_released_lem;
      of_task = h.runs ∙ ap some f.of_task;
      runs = ap (λ z. running_in z b.jobs) h.runs ∙ f.runs;
      others = ap (λ z. without z b.jobs) h.runs ∙ f.others;
    }

-- a released job is in the queue
some_ready : (s : Phase) (n : ℕ) (q : List ℕ) → s ≡ Released → pushed s n q ≡ [] → ⊥
some_ready Delayed n q e z = not_live e
some_ready Released n [] e z = let y : ◌≡◌ {A = ℕ} 0 1 = cc in omega arith
some_ready Released n (m ∷ q) e z = let y : ◌≡◌ {A = ℕ} 0 1 = cc in omega arith

none_ready : (l : List Job) → FirstReleased l → released_of l ≡ [] → l ≡ []
none_ready [] f z = refl
none_ready (j ∷ l) f z = absurd (some_ready j.phase j.task (released_of l) f z)

runs_some : (T : Table) (b : Board) → Good T Other b → ((b.jobs ≡ []) × (running_job T b ≡ none)) ⊎ (Running T b)
runs_some T b g = go (kernel_is_priority (priority_of T) b.ready)
  where
    go : ((b.ready ≡ []) × (running T b ≡ none)) ⊎ (Highest (priority_of T) b.ready) → ((b.jobs ≡ []) × (running_job T b ≡ none)) ⊎ (Running T b)
    go (inl z) =
        inl (none_ready b.jobs g.lined.first (sym g.lined.queue ∙ z.0), ap (λ r. running_in r b.jobs) z.1)
    go (inr h) = inr (runs_one T b g h)

pub runs_released : RunsReleased
runs_released T calls = runs_some T (run T fresh calls) (fresh_good T Other (others T) calls)
