-- Each job is released by exactly one kernel call, on any table. Assumes nothing.
use Prim.Native.Nat.{ℕ, zero, suc, ◌+◌}
use mathlib.Core.Path.{◌≡◌, refl, ap, sym, ◌∙◌}
use mathlib.Core.Bool.{Bool, true, false, cond, ◌&&◌}
use mathlib.Core.List.{List, [], ◌∷◌, map}
use mathlib.Core.Option.{Option, some, none}
use lib.Dec.{eqb}
use native.Mathlib.Omega.{arith}
use Rattle.rules.specs.declared.Tick.{Tick}
use Rattle.rules.specs.declared.Phase.{Phase}
use Rattle.rules.specs.declared.Phase.TheVariants.{Delayed, Released}
use Rattle.rules.specs.declared.Call.{Call}
use Rattle.rules.specs.declared.Call.TheVariants.{Wait, Activate, Terminate, Chain}
use Rattle.rules.specs.declared.KernelCall.TheVariants.{NoCall}
use Rattle.rules.specs.Words.{unless, count_by}
use Rattle.rules.specs.Table.{Table}
use Rattle.rules.specs.Jobs.{Job, Pending, accepted, bare, new_job, released, before}
use Rattle.rules.specs.Calls.{tick_of}
use Rattle.rules.specs.Late.{marked_at}
use Rattle.rules.specs.Layer.{Board, fresh, next, done, marked, result, running, running_in, is_of, is_released, without, insert, is_first, settled, settled_by, entered, moves}
use Rattle.rules.specs.Counts.{ending}
use Rattle.rules.specs.Statement.{ReleasedOnce}
use Rattle.rules.specs.History.{starts, first_if, released_by, Ended, ended_at, ended_by}
use Rattle.rules.proofs.Along.{balance}
use Rattle.rules.proofs.Lists.{count_front, count_insert, count_map}
use Rattle.rules.proofs.Bools.{and_true_both}
use Rattle.rules.proofs.Moves.{without_marked}
use Rattle.rules.proofs.Invariant.{insert_first}

module _ (test : Pending → Bool) where
  abbrev of_ended : Ended → Bool
  of_ended x = test x.job

  -- a released job that passes the test
  abbrev is_out : Job → Bool
  is_out j = is_released j.phase && test (bare j)

  -- one of them in front
  out_front : (j : Job) (l : List Job) → is_released j.phase ≡ true → count_by test (bare j ∷ []) + count_by is_out l ≡ count_by is_out (j ∷ l)
  out_front j l e =
      omega (arith, count_front is_out j l, ap {B = ℕ} (λ (z : Bool). cond (z && test (bare j)) 1 0) e)

  -- a delayed one does not count
  delayed_front : (j : Job) (l : List Job) → is_released j.phase ≡ false → count_by is_out (j ∷ l) ≡ count_by is_out l
  delayed_front j l e = ap (λ (z : Bool). cond (z && test (bare j)) (suc (count_by is_out l)) (count_by is_out l)) e

  -- the job that ends was one of the released
  ending_out : (t : Tick) (r : Option ℕ) (l : List Job)
      → count_by of_ended (ended_at t (running_in r l)) + count_by is_out (without r l) ≡ count_by is_out l
  ending_out t none l = omega arith
  ending_out t (some n) [] = refl
  ending_out t (some n) (j ∷ l) = go (is_of n j) refl (ending_out t (some n) l)
    where
      go : (s : Bool) → is_of n j ≡ s → count_by of_ended (ended_at t (running_in (some n) l)) + count_by is_out (without (some n) l) ≡ count_by is_out l
          → count_by of_ended (ended_at t (cond s (some j) (running_in (some n) l))) + count_by is_out (cond s l (j ∷ without (some n) l)) ≡ count_by is_out (j ∷ l)
      go true e ih = out_front j l (and_true_both (eqb n j.task) (is_released j.phase) e).1
      go false e ih = omega (arith, ih, count_front is_out j l, count_front is_out j (without (some n) l))

  -- what is chained to is released
  settled_out : (l : List Job) → count_by test (first_if (starts (settled l).call) (settled l).jobs) + count_by is_out l ≡ count_by is_out (settled l).jobs
  settled_out [] = refl
  settled_out (j ∷ l) = go j.phase refl
    where
      go : (s : Phase) → j.phase ≡ s
          → count_by test (first_if (starts (settled_by s j l).call) (settled_by s j l).jobs) + count_by is_out (j ∷ l) ≡ count_by is_out (settled_by s j l).jobs
      go Delayed e = ap (λ z. count_by test (bare j ∷ []) + z) (delayed_front j l (ap is_released e)) ∙ out_front (released j) l refl
      go Released e = omega arith

  -- a new job is released if it is first
  entered_out : (T : Table) (j : Pending) (l : List Job) (f : Bool) → is_first (before T) j l ≡ f
      → count_by test (first_if (starts (entered (before T) j l f).call) (entered (before T) j l f).jobs) + count_by is_out l
      ≡ count_by is_out (entered (before T) j l f).jobs
  entered_out T j l true e =
      ap (λ (z : List Job). count_by test (first_if (j.task ∷ []) z) + count_by is_out l) (insert_first T Released j l e)
      ∙ out_front (new_job Released j) l refl ∙ ap (count_by is_out) (sym (insert_first T Released j l e))
  entered_out T j l false e = omega (arith, count_insert is_out (λ a b. before T (bare a) (bare b)) (new_job Delayed j) l)

  module _ (T : Table) where
    marked_out : (t : Tick) (l : List Job) → count_by is_out (map (marked_at t) l) ≡ count_by is_out l
    marked_out t l = count_map is_out (marked_at t) l

    -- the running job leaves the marked list
    leaves_out : (t : Tick) (r : Option ℕ) (l : List Job)
        → count_by of_ended (ended_at t (running_in r l)) + count_by is_out (without r (map (marked_at t) l)) ≡ count_by is_out l
    leaves_out t r l =
        omega (arith, ap (count_by is_out) (without_marked t r l), marked_out t (without r l), ending_out t r l)

    moves_out : (b : Board) (e : Call)
        → count_by test (first_if (starts (moves T (marked (tick_of e) b) e).call) (moves T (marked (tick_of e) b) e).jobs) + count_by is_out b.jobs
        ≡ count_by of_ended (ended_at (tick_of e) (ending T b e)) + count_by is_out (moves T (marked (tick_of e) b) e).jobs
    moves_out b (Wait t) = omega (arith, marked_out t b.jobs)
    moves_out b (Activate t n) =
        let l = map (marked_at t) b.jobs in
        omega (arith, marked_out t b.jobs, entered_out T (accepted T t n) l (is_first (before T) (accepted T t n) l) refl)
    moves_out b (Terminate t) =
        omega (arith, leaves_out t (running T b) b.jobs, settled_out (without (running T b) (map (marked_at t) b.jobs)))
    moves_out b (Chain t n) =
        let l = without (running T b) (map (marked_at t) b.jobs) in
        omega (
          arith,
          leaves_out t (running T b) b.jobs,
          settled_out (insert (before T) (new_job Delayed (accepted T t n)) l),
          count_insert is_out (λ a b. before T (bare a) (bare b)) (new_job Delayed (accepted T t n)) l,
        )

    -- the released jobs grow by what was released and shrink by what ended
    next_out : (b : Board) (e : Call)
        → count_by test (released_by T b e) + count_by is_out b.jobs ≡ count_by of_ended (ended_by T b e) + count_by is_out (next T b e).jobs
    next_out b e = go (result T b e)
      where
        go : (k : ℕ) → count_by test (first_if (starts (unless k NoCall (moves T (marked (tick_of e) b) e).call)) (unless k b (done T (marked (tick_of e) b) e)).jobs) + count_by is_out b.jobs
            ≡ count_by of_ended (unless k [] (ended_at (tick_of e) (ending T b e))) + count_by is_out (unless k b (done T (marked (tick_of e) b) e)).jobs
        go zero = moves_out b e
        go (suc k) = refl

pub released_once : ReleasedOnce
released_once T calls test =
    omega (
      arith,
      balance T (λ b. Unit {0}) (λ b i e. tt) (released_by T) test (ended_by T) (of_ended test) (λ (b : Board). count_by (is_out test) b.jobs) (λ b i. next_out test T b) fresh tt calls,
    )
