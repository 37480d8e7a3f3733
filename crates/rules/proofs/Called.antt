-- The kernel call that a call returns is the one that it made, and which one it is; the tick that a call leaves is its own. Assumes nothing.
use Prim.Native.Nat.{ℕ, zero, suc}
use mathlib.Core.Path.{◌≡◌, refl, ap, sym, ◌∙◌, subst⁻¹}
use mathlib.Core.Logic.{inl, inr}
use mathlib.Core.Bool.{Bool, true, false, cond}
use mathlib.Core.List.{List, [], ◌∷◌, ◌++◌, map}
use mathlib.Core.Option.{some}
use Rattle.rules.specs.declared.Tick.{Tick}
use Rattle.rules.specs.declared.Phase.{Phase}
use Rattle.rules.specs.declared.Phase.TheVariants.{Delayed, Released}
use Rattle.rules.specs.declared.Call.{Call}
use Rattle.rules.specs.declared.Call.TheVariants.{Wait, Activate, Terminate, Chain}
use Rattle.rules.specs.declared.KernelCall.TheVariants.{NoCall, ActivateTask, ChainTask}
use Rattle.rules.specs.Words.{unless, last_or, All, Pairs}
use Rattle.rules.specs.Table.{Table}
use Rattle.rules.specs.Jobs.{Job, Pending, accepted, bare, new_job, Before, before}
use Rattle.rules.specs.Kernel.{kernel}
use Rattle.rules.specs.Calls.{tick_of}
use Rattle.rules.specs.Late.{marked_at}
use Rattle.rules.specs.Layer.{Board, fresh, insert, is_first, without, settled, settled_by, entered, running, moves, marked, done, result, next}
use Rattle.rules.specs.Run.{run}
use Rattle.rules.specs.History.{along, if_accepted, starts, job_of}
use Rattle.rules.specs.Statement.{If, IsFirst, Settles, CallIs, CallsExact, first_task, CallsMade, LastAccepted}
use Rattle.rules.proofs.Lists.{all_map}
use Rattle.rules.proofs.Order.{before_true, before_false, passing}
use Rattle.rules.proofs.Moves.{pairs_without, without_marked}
use Rattle.rules.proofs.Invariant.{not_live, insert_first}
use Rattle.rules.proofs.Listing.{list_holds}

-- once the running job has left
settled_first : (l : List Job) → All (λ n. first_task (settled l).jobs ≡ some n) (starts (settled l).call)
settled_first [] = tt
settled_first (j ∷ l) = go j.phase
  where
    go : (s : Phase) → All (λ n. first_task (settled_by s j l).jobs ≡ some n) (starts (settled_by s j l).call)
    go Delayed = (refl, tt)
    go Released = tt

module _ (T : Table) where
  entered_first : (j : Pending) (l : List Job) (f : Bool) → is_first (before T) j l ≡ f
      → All (λ n. first_task (entered (before T) j l f).jobs ≡ some n) (starts (entered (before T) j l f).call)
  entered_first j l true e = (ap first_task (insert_first T Released j l e), tt)
  entered_first j l false e = tt

  moves_first : (b : Board) (e : Call) → All (λ n. first_task (moves T b e).jobs ≡ some n) (starts (moves T b e).call)
  moves_first b (Wait t) = tt
  moves_first b (Activate t n) = entered_first (accepted T t n) b.jobs (is_first (before T) (accepted T t n) b.jobs) refl
  moves_first b (Terminate t) = settled_first (without (running T b) b.jobs)
  moves_first b (Chain t n) = settled_first (insert (before T) (new_job Delayed (accepted T t n)) (without (running T b) b.jobs))

pub calls_made : CallsMade
calls_made T b e = record { made = made (result T b e); starts_first = first (result T b e) }
  where
    c : Board
    c = marked (tick_of e) b

    made : (k : ℕ) → (unless k b (done T c e)).ready ≡ kernel (running T b) (unless k NoCall (moves T c e).call) b.ready
    made zero = refl
    made (suc k) = refl

    first : (k : ℕ) → All (λ n. first_task (unless k b (done T c e)).jobs ≡ some n) (starts (unless k NoCall (moves T c e).call))
    first zero = moves_first T c e
    first (suc k) = tt

-- ---- which kernel call an accepted call makes

by_phase : (j : Job) (l m : List Job) (s : Phase) → j.phase ≡ s → Settles (j ∷ l) (settled_by s j m).call
by_phase j l m Delayed e = inl (e, refl)
by_phase j l m Released e = inr (λ d. not_live (sym d ∙ e), refl)

terminates : (t : Tick) (l : List Job) → Settles l (settled (map (marked_at t) l)).call
terminates t [] = refl
terminates t (j ∷ l) = by_phase (marked_at t j) l (map (marked_at t) l) j.phase refl

module _ (T : Table) where
  -- no job of the list goes before one that stands in front of it
  abbrev InOrder : List Job → Type 0
  InOrder l = Pairs (λ (j k : Job). Before T (bare k) (bare j) → ⊥) l

  -- a job that goes before the first goes before all
  is_first_lem : (j : Pending) (k : Job) (l : List Job) → InOrder (k ∷ l) → before T j (bare k) ≡ true → IsFirst T j (k ∷ l)
  is_first_lem j k l o e =
      let f = before_true T j (bare k) e in
      (f, all_map (λ m a. passing T j (bare k) (bare m) f a) l o.0)

  not_first : (j : Pending) (k : Job) (l : List Job) → before T j (bare k) ≡ false → IsFirst T j (k ∷ l) → ⊥
  not_first j k l e a = before_false T j (bare k) e a.0

  activates : (t : Tick) (j : Pending) (l : List Job) → InOrder l
      → If (IsFirst T j l)
      ((entered (before T) j (map (marked_at t) l) (is_first (before T) j (map (marked_at t) l))).call ≡ ActivateTask j.task)
      ((entered (before T) j (map (marked_at t) l) (is_first (before T) j (map (marked_at t) l))).call ≡ NoCall)
  activates t j [] o = inl (tt, refl)
  activates t j (k ∷ l) o = go (before T j (bare k)) refl
    where
      go : (s : Bool) → before T j (bare k) ≡ s
          → If (IsFirst T j (k ∷ l))
          ((entered (before T) j (map (marked_at t) (k ∷ l)) s).call ≡ ActivateTask j.task)
          ((entered (before T) j (map (marked_at t) (k ∷ l)) s).call ≡ NoCall)
      go true e = inl (is_first_lem j k l o e, refl)
      go false e = inr (not_first j k l e, refl)

  chains : (t : Tick) (j : Pending) (l : List Job) → InOrder l
      → If (IsFirst T j l)
      ((settled (insert (before T) (new_job Delayed j) (map (marked_at t) l))).call ≡ ChainTask j.task)
      (Settles l (settled (insert (before T) (new_job Delayed j) (map (marked_at t) l))).call)
  chains t j [] o = inl (tt, refl)
  chains t j (k ∷ l) o = go (before T j (bare k)) refl
    where
      rest : List Job
      rest = insert (before T) (new_job Delayed j) (map (marked_at t) l)

      go : (s : Bool) → before T j (bare k) ≡ s
          → If (IsFirst T j (k ∷ l))
          ((settled (cond s (new_job Delayed j ∷ marked_at t k ∷ map (marked_at t) l) (marked_at t k ∷ rest))).call ≡ ChainTask j.task)
          (Settles (k ∷ l) (settled (cond s (new_job Delayed j ∷ marked_at t k ∷ map (marked_at t) l) (marked_at t k ∷ rest))).call)
      go true e = inl (is_first_lem j k l o e, refl)
      go false e = inr (not_first j k l e, by_phase (marked_at t k) l rest k.phase refl)

  moves_exact : (b : Board) → InOrder b.jobs → (e : Call) → CallIs T b e (moves T (marked (tick_of e) b) e).call
  moves_exact b o (Wait t) = refl
  moves_exact b o (Activate t n) = activates t (job_of T t n) b.jobs o
  moves_exact b o (Terminate t) =
      subst⁻¹ (λ z. Settles (without (running T b) b.jobs) (settled z).call) (without_marked t (running T b) b.jobs)
      (terminates t (without (running T b) b.jobs))
  moves_exact b o (Chain t n) =
      subst⁻¹ (λ z. If (IsFirst T (job_of T t n) (without (running T b) b.jobs))
      ((settled (insert (before T) (new_job Delayed (job_of T t n)) z)).call ≡ ChainTask n)
      (Settles (without (running T b) b.jobs) (settled (insert (before T) (new_job Delayed (job_of T t n)) z)).call))
      (without_marked t (running T b) b.jobs)
      (chains t (job_of T t n) (without (running T b) b.jobs) (pairs_without (λ (j k : Job). Before T (bare k) (bare j) → ⊥) (running T b) b.jobs o))

pub calls_exact : CallsExact
calls_exact T calls e z =
    let b = run T fresh calls in
    subst⁻¹ (λ (k : ℕ). CallIs T b e (unless k NoCall (moves T (marked (tick_of e) b) e).call)) z (moves_exact T b (list_holds T calls).ordered e)

-- ---- the last accepted call's tick

last_append {ℓ} : {A : Type ℓ} (d : A) (l m : List A) → last_or d (l ++ m) ≡ last_or (last_or d l) m
last_append d [] m = refl
last_append d (a ∷ l) m = last_append a l m

last_from : (T : Table) (b : Board) (es : List Call) → (run T b es).last ≡ last_or b.last (along T (λ b e. if_accepted T b e (tick_of e ∷ [])) b es)
last_from T b [] = refl
last_from T b (e ∷ es) =
    last_from T (next T b e) es ∙ ap (λ (t : Tick). last_or t rest) (go (result T b e))
    ∙ sym (last_append b.last (if_accepted T b e (tick_of e ∷ [])) rest)
  where
    rest : List Tick
    rest = along T (λ b e. if_accepted T b e (tick_of e ∷ [])) (next T b e) es

    go : (k : ℕ) → (unless k b (done T (marked (tick_of e) b) e)).last ≡ last_or b.last (unless k [] (tick_of e ∷ []))
    go zero = refl
    go (suc k) = refl

pub last_accepted : LastAccepted
last_accepted T calls = last_from T fresh calls
