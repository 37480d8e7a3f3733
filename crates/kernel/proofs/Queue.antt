-- What `dispatch` finds is the job that the rule-book's kernel runs with its own ready queue. Assumes nothing.
use Prim.Native.Nat.{ℕ, ◌≤◌, ◌<◌}
use mathlib.Core.Path.{◌≡◌, refl, sym, ap, ◌∙◌, subst⁻¹}
use mathlib.Core.Bool.{Bool, true, false, cond, ◌&&◌}
use mathlib.Core.List.{List, [], ◌∷◌, ◌++◌, append_assoc, append-nil, map}
use mathlib.Core.Option.{Option, some, none}
use borrow.Author.Tests.{lt-ltb, le-ltb, eq-eqb, eqb-true}
use lib.Dec.{ltb, eqb}
use lib.ListN.{length, get_or}
use lib.Seq.{append_snoc}
use Rattle.rules.specs.declared.Job.{Job as Entry}
use Rattle.rules.specs.declared.Phase.{Phase}
use Rattle.rules.specs.declared.Phase.TheVariants.{Delayed, Released}
use Rattle.rules.specs.declared.Line.{Line}
use Rattle.rules.specs.Words.{All, Pairs}
use Rattle.rules.specs.Jobs.{Job}
use Rattle.rules.specs.Kernel.{higher, dispatched}
use Rattle.rules.specs.Layer.{fresh, is_released, is_of, running_in}
use Rattle.rules.specs.Run.{run}
use Rattle.rules.specs.Statement.{pushed, released_of}
use Rattle.rules.proofs.Lists.{rest_of, all_append, pairs_over}
use Rattle.rules.proofs.Listing.{list_holds}
use Rattle.table.proofs.Packed.{kept_line}
use Rattle.table.specs.Lines.{packed, line_at}
use Rattle.std.specs.Prelude.{Some, None}
use Rattle.kernel.specs.Dispatch.{Found, dispatch_of}
use Rattle.kernel.specs.Claims.{job_at, placed, Chosen, DispatchIsKernel}
use Rattle.scheduler.specs.State.{kept}
use Rattle.kernel.proofs.Highest.{dispatch_is_highest}

-- ---- the kernel's choice, from a queue

module _ (level : ℕ → ℕ) where
  abbrev OfSome : (ℕ → Type 0) → Option ℕ → Type 0
  OfSome P none = Unit {0}
  OfSome P (some n) = P n

  -- what the kernel picks is one of the queue
  picks : (P : ℕ → Type 0) (q : List ℕ) → All P q → OfSome P (dispatched level q)
  picks P [] h = tt
  picks P (n ∷ q) h = go (dispatched level q) (picks P q h.1)
    where
      by : (t : Bool) (m : ℕ) → P m → P (cond t m n)
      by true m a = a
      by false m a = h.0

      go : (o : Option ℕ) → OfSome P o → P (higher level n o)
      go none a = h.0
      go (some m) a = by (ltb (level n) (level m)) m a

  -- n runs where none released after it is higher
  keeps : (n : ℕ) (o : Option ℕ) → OfSome (λ m. level m ≤ level n) o → higher level n o ≡ n
  keeps n none h = refl
  keeps n (some m) h = ap (λ t. cond t m n) (le-ltb (level n) (level m) h)

  -- one runs that is higher than all released before it, and at least as high as all released after it
  runs_one : (n : ℕ) (sooner later : List ℕ) → All (λ m. level m < level n) sooner → All (λ m. level m ≤ level n) later
      → dispatched level (sooner ++ (n ∷ later)) ≡ some n
  runs_one n [] later a b = ap some (keeps n (dispatched level later) (picks (λ m. level m ≤ level n) later b))
  runs_one n (m ∷ sooner) later a b =
      ap (λ o. some (higher level m o)) (runs_one n sooner later a.1 b) ∙ ap (λ t. some (cond t n m)) (lt-ltb (level m) (level n) a.0)

-- ---- the queue of a list: its released jobs from back to front

abbrev queue_of : List Entry → List ℕ
queue_of [] = []
queue_of (x ∷ xs) = pushed x.phase x.task (queue_of xs)

queue_kept : (l : List Job) → released_of l ≡ queue_of (map kept l)
queue_kept [] = refl
queue_kept (j ∷ l) = ap (pushed j.phase j.task) (queue_kept l)

-- those further back come first
queue_parts : (front back : List Entry) → queue_of (front ++ back) ≡ queue_of back ++ queue_of front
queue_parts [] back = sym (append-nil (queue_of back))
queue_parts (x ∷ front) back = ap (pushed x.phase x.task) (queue_parts front back) ∙ go x.phase
  where
    go : (s : Phase) → pushed s x.task (queue_of back ++ queue_of front) ≡ queue_of back ++ pushed s x.task (queue_of front)
    go Delayed = refl
    go Released = append_assoc (queue_of back) (queue_of front) (x.task ∷ [])

-- a released job was released after those behind it in the list, and before those in front of it
queue_around : (front : List Entry) (x : Entry) (back : List Entry) → x.phase ≡ Released
    → queue_of (front ++ (x ∷ back)) ≡ queue_of back ++ (x.task ∷ queue_of front)
queue_around front x back r =
    queue_parts front (x ∷ back)
    ∙ ap (λ s. pushed s x.task (queue_of back) ++ queue_of front) r
    ∙ append_snoc (queue_of back) x.task (queue_of front)

queue_none : (xs : List Entry) → All (λ (x : Entry). x.phase ≡ Delayed) xs → queue_of xs ≡ []
queue_none [] h = refl
queue_none (x ∷ xs) h = ap (λ s. pushed s x.task (queue_of xs)) h.0 ∙ queue_none xs h.1

-- a fact of the released jobs is one of the queue
all_queue : (P : ℕ → Type 0) (xs : List Entry) → All (λ (x : Entry). x.phase ≡ Released → P x.task) xs → All P (queue_of xs)
all_queue P [] h = tt
all_queue P (x ∷ xs) h = go x.phase h.0 (all_queue P xs h.1)
  where
    go : (s : Phase) → (s ≡ Released → P x.task) → All P (queue_of xs) → All P (pushed s x.task (queue_of xs))
    go Delayed a b = b
    go Released a b = all_append P (queue_of xs) (x.task ∷ []) b (a refl, tt)

-- ---- the job of the task that runs

-- two jobs that are not both released, or are of two tasks
abbrev Apart : Entry → Entry → Type 0
Apart x y = x.phase ≡ Released → y.phase ≡ Released → x.task ≡ y.task → ⊥

apart_front : (front : List Entry) (x : Entry) (back : List Entry) → Pairs Apart (front ++ (x ∷ back)) → All (λ (y : Entry). Apart y x) front
apart_front [] x back h = tt
apart_front (y ∷ front) x back h = (go front h.0, apart_front front x back h.1)
  where
    go : (f : List Entry) → All (Apart y) (f ++ (x ∷ back)) → Apart y x
    go [] a = a.0
    go (z ∷ f) a = go f a.1

other_job : (n : ℕ) (j : Job) → (j.phase ≡ Released → j.task ≡ n → ⊥) → is_of n j ≡ false
other_job n j a = go j.phase (eqb n j.task) refl refl
  where
    go : (s : Phase) (t : Bool) → j.phase ≡ s → eqb n j.task ≡ t → (t && is_released s) ≡ false
    go s false p e = refl
    go Delayed true p e = refl
    go Released true p e = absurd (a p (sym (eqb-true n j.task e)))

-- in front of it no released job is of its task, so its task finds it
job_is : (l : List Job) (front : List Entry) (x : Entry) (back : List Entry) → map kept l ≡ front ++ (x ∷ back) → x.phase ≡ Released
    → All (λ (y : Entry). Apart y x) front → job_at (length front) l ≡ running_in (some x.task) l
job_is [] front x back e r a = refl
job_is (j ∷ l) [] x back e r a =
    let d : kept j ≡ x = ap (λ (z : List Entry). get_or z 0 x) e in
    let t = eq-eqb x.task j.task (sym (ap (λ (z : Entry). z.task) d)) in
    let s = ap (λ (z : Entry). is_released z.phase) d ∙ ap is_released r in
    sym (λ i. cond (t i && s i) (some j) (running_in (some x.task) l))
job_is (j ∷ l) (y ∷ front) x back e r a =
    let d : kept j ≡ y = ap (λ (z : List Entry). get_or z 0 x) e in
    let o : Apart (kept j) x = subst⁻¹ (λ (z : Entry). Apart z x) d a.0 in
    job_is l front x back (ap rest_of e) r a.1
    ∙ sym (ap (λ t. cond t (some j) (running_in (some x.task) l)) (other_job x.task j (λ p. o p r)))

-- ---- all together

module _ (lines : List Line) where
  abbrev level : ℕ → ℕ
  level n = (line_at lines n).priority

  kernel_runs : (l : List Job) (f : Found) → Chosen lines (map kept l) f → Pairs Apart (map kept l)
      → placed f l ≡ running_in (dispatched level (queue_of (map kept l))) l
  kernel_runs l None c o = ap (λ q. running_in (dispatched level q) l) (sym (queue_none (map kept l) c))
  kernel_runs l (Some k) h o =
      let n = h.job.task in
      let runs : dispatched level (queue_of (map kept l)) ≡ some n =
      ap (λ xs. dispatched level (queue_of xs)) h.among
      ∙ ap (dispatched level) (queue_around h.front h.job h.back h.is_released_lem)
      ∙ runs_one level n (queue_of h.back) (queue_of h.front) (all_queue (λ m. level m < level n) h.back h.behind) (all_queue (λ m. level m ≤ level n) h.front h.in_front_lem) in
      ap (λ i. job_at i l) h.place
      ∙ job_is l h.front h.job h.back h.among h.is_released_lem (apart_front h.front h.job h.back (rw h.among at o))
      ∙ ap (λ r. running_in r l) (sym runs)

pub dispatch_is_kernel : DispatchIsKernel
dispatch_is_kernel T calls =
    let b = run T fresh calls in
    let s = list_holds T calls in
    let lines = (packed T.lines).lines in
    let xs = map kept b.jobs in
    let q : b.ready ≡ queue_of xs = s.queue ∙ queue_kept b.jobs in
    kernel_runs lines b.jobs (dispatch_of lines xs) (dispatch_is_highest lines xs) (pairs_over _ Apart kept (λ j k a. a) b.jobs s.one_each)
    ∙ (λ i. running_in (dispatched (λ n. (kept_line T.lines n i).priority) (sym q i)) b.jobs)
