-- What a call's moves do to a list of jobs, whatever the order: which jobs come, which stay, and that nothing else changes. Assumes nothing.
use Prim.Native.Nat.{ℕ, suc, ◌+◌, ◌≤◌}
use mathlib.Core.Path.{◌≡◌, refl, ap, sym, ◌∙◌}
use mathlib.Core.Bool.{Bool, true, false, cond}
use mathlib.Core.List.{List, [], ◌∷◌, ◌++◌, map}
use mathlib.Core.Option.{Option, some, none}
use native.Mathlib.Omega.{arith}
use Rattle.rules.specs.declared.Tick.{Tick}
use Rattle.rules.specs.declared.Phase.{Phase}
use Rattle.rules.specs.declared.Phase.TheVariants.{Delayed, Released}
use Rattle.rules.specs.declared.Call.{Call}
use Rattle.rules.specs.declared.Call.TheVariants.{Wait, Activate, Terminate, Chain}
use Rattle.rules.specs.Words.{count_by, All, Pairs}
use Rattle.rules.specs.Jobs.{Job, Pending, bare, new_job, released}
use Rattle.rules.specs.Late.{marked_at}
use Rattle.rules.specs.Layer.{Board, running, Order, insert, is_first, is_of, running_in, without, settled, settled_by, entered, moved}
use Rattle.rules.specs.Table.{Table}
use Rattle.rules.specs.Calls.{tick_of}
use Rattle.rules.specs.Counts.{ending}
use Rattle.rules.specs.History.{makes}
use Rattle.rules.proofs.Lists.{all_insert, count_insert, count_front}

-- ---- the running job leaves, wherever it stands

-- none or one, as a list
abbrev pub found {ℓ} : {A : Type ℓ} → Option A → List A
found none = []
found (some a) = a ∷ []

pub all_without : (Q : Job → Type 0) (r : Option ℕ) (l : List Job) → All Q l → All Q (without r l)
all_without Q none l h = h
all_without Q (some n) [] h = tt
all_without Q (some n) (j ∷ l) h = go (is_of n j) (all_without Q (some n) l h.1)
  where
    go : (t : Bool) → All Q (without (some n) l) → All Q (cond t l (j ∷ without (some n) l))
    go true ih = h.1
    go false ih = (h.0, ih)

pub pairs_without : (R : Job → Job → Type 0) (r : Option ℕ) (l : List Job) → Pairs R l → Pairs R (without r l)
pairs_without R none l h = h
pairs_without R (some n) [] h = tt
pairs_without R (some n) (j ∷ l) h = go (is_of n j) (pairs_without R (some n) l h.1)
  where
    go : (t : Bool) → Pairs R (without (some n) l) → Pairs R (cond t l (j ∷ without (some n) l))
    go true ih = h.1
    go false ih = (all_without (R j) (some n) l h.0, ih)

-- what leaves and what stays
pub count_leaves : (g : Job → Bool) (r : Option ℕ) (l : List Job) → count_by g (found (running_in r l)) + count_by g (without r l) ≡ count_by g l
count_leaves g none l = omega arith
count_leaves g (some n) [] = refl
count_leaves g (some n) (j ∷ l) = go (is_of n j) (count_leaves g (some n) l)
  where
    both : (t : Bool) (a b c : ℕ) → a + b ≡ c → a + cond t (suc b) b ≡ cond t (suc c) c
    both true a b c h = omega arith
    both false a b c h = h

    go : (s : Bool) → count_by g (found (running_in (some n) l)) + count_by g (without (some n) l) ≡ count_by g l
        → count_by g (found (cond s (some j) (running_in (some n) l))) + count_by g (cond s l (j ∷ without (some n) l)) ≡ count_by g (j ∷ l)
    go true ih = sym (count_front g j l)
    go false ih = both (g j) (count_by g (found (running_in (some n) l))) (count_by g (without (some n) l)) (count_by g l) ih

pub count_without : (g : Job → Bool) (r : Option ℕ) (l : List Job) → count_by g (without r l) ≤ count_by g l
count_without g r l = omega (arith, count_leaves g r l)

-- it is the same job whether late ones were marked or not
pub without_marked : (t : Tick) (r : Option ℕ) (l : List Job) → without r (map (marked_at t) l) ≡ map (marked_at t) (without r l)
without_marked t none l = refl
without_marked t (some n) [] = refl
without_marked t (some n) (j ∷ l) = go (is_of n j) (without_marked t (some n) l)
  where
    go : (s : Bool) → without (some n) (map (marked_at t) l) ≡ map (marked_at t) (without (some n) l)
        → cond s (map (marked_at t) l) (marked_at t j ∷ without (some n) (map (marked_at t) l)) ≡ map (marked_at t) (cond s l (j ∷ without (some n) l))
    go true ih = refl
    go false ih = ap (λ z. marked_at t j ∷ z) ih

-- so is the job found
pub found_marked : (t : Tick) (r : Option ℕ) (l : List Job) → found (running_in r (map (marked_at t) l)) ≡ map (marked_at t) (found (running_in r l))
found_marked t none l = refl
found_marked t (some n) [] = refl
found_marked t (some n) (j ∷ l) = go (is_of n j) (found_marked t (some n) l)
  where
    go : (s : Bool) → found (running_in (some n) (map (marked_at t) l)) ≡ map (marked_at t) (found (running_in (some n) l))
        → found (cond s (some (marked_at t j)) (running_in (some n) (map (marked_at t) l))) ≡ map (marked_at t) (found (cond s (some j) (running_in (some n) l)))
    go true ih = refl
    go false ih = ih

pub all_found : (Q : Job → Type 0) (r : Option ℕ) (l : List Job) → All Q l → All Q (found (running_in r l))
all_found Q none l h = tt
all_found Q (some n) [] h = tt
all_found Q (some n) (j ∷ l) h = go (is_of n j) (all_found Q (some n) l h.1)
  where
    go : (s : Bool) → All Q (found (running_in (some n) l)) → All Q (found (cond s (some j) (running_in (some n) l)))
    go true ih = (h.0, tt)
    go false ih = ih

-- ---- what stays

-- the jobs that a call does not end
abbrev pub staying : Option ℕ → List Job → Call → List Job
staying r l (Wait t) = l
staying r l (Activate t n) = l
staying r l (Terminate t) = without r l
staying r l (Chain t n) = without r l

leaves : (g : Job → Bool) (t : Tick) (r : Option ℕ) (l : List Job)
    → count_by g (map (marked_at t) (found (running_in r l))) + count_by g (without r (map (marked_at t) l)) ≡ count_by g (map (marked_at t) l)
leaves g t r l = ap (λ z. count_by g z + count_by g (without r (map (marked_at t) l))) (sym (found_marked t r l)) ∙ count_leaves g r (map (marked_at t) l)

-- what a call ends and what stays are all that were there
pub count_stays : (g : Job → Bool) (T : Table) (b : Board) (e : Call)
    → count_by g (map (marked_at (tick_of e)) (found (ending T b e))) + count_by g (staying (running T b) (map (marked_at (tick_of e)) b.jobs) e)
    ≡ count_by g (map (marked_at (tick_of e)) b.jobs)
count_stays g T b (Wait t) = omega arith
count_stays g T b (Activate t n) = omega arith
count_stays g T b (Terminate t) = leaves g t (running T b) b.jobs
count_stays g T b (Chain t n) = leaves g t (running T b) b.jobs

-- a fact of each job holds after the call, if it holds of what stays and comes and does not look at the phase
module _ (Q : Job → Type 0) (blind : (j : Job) → Q j → Q (released j)) where
  settled_all : (l : List Job) → All Q l → All Q (settled l).jobs
  settled_all [] h = tt
  settled_all (j ∷ l) h = go j.phase
    where
      go : (s : Phase) → All Q (settled_by s j l).jobs
      go Delayed = (blind j h.0, h.1)
      go Released = h

  entered_all : (goes : Order) (j : Pending) (l : List Job) (f : Bool) → Q (new_job Delayed j) → All Q l → All Q (entered goes j l f).jobs
  entered_all goes j l true q h = all_insert Q (λ a b. goes (bare a) (bare b)) (new_job Released j) l (blind (new_job Delayed j) q) h
  entered_all goes j l false q h = all_insert Q (λ a b. goes (bare a) (bare b)) (new_job Delayed j) l q h

  pub moved_all : (goes : Order) (new : Tick → ℕ → Pending) (r : Option ℕ) (l : List Job) (e : Call)
      → All (λ (j : Pending). Q (new_job Delayed j)) (makes new e) → All Q l → All Q (moved goes new r l e).jobs
  moved_all goes new r l (Wait t) q h = h
  moved_all goes new r l (Activate t n) q h = entered_all goes (new t n) l (is_first goes (new t n) l) q.0 h
  moved_all goes new r l (Terminate t) q h = settled_all (without r l) (all_without Q r l h)
  moved_all goes new r l (Chain t n) q h =
      settled_all (insert goes (new_job Delayed (new t n)) (without r l))
      (all_insert Q (λ a b. goes (bare a) (bare b)) (new_job Delayed (new t n)) (without r l) q.0 (all_without Q r l h))

-- so does a count
module _ (g : Job → Bool) (blind : (j : Job) → g (released j) ≡ g j) where
  settled_count : (l : List Job) → count_by g (settled l).jobs ≡ count_by g l
  settled_count [] = refl
  settled_count (j ∷ l) = go j.phase
    where
      go : (s : Phase) → count_by g (settled_by s j l).jobs ≡ count_by g (j ∷ l)
      go Delayed = ap (λ z. cond z (suc (count_by g l)) (count_by g l)) (blind j)
      go Released = refl

  entered_count : (goes : Order) (j : Pending) (l : List Job) (f : Bool) → count_by g (entered goes j l f).jobs ≡ count_by g (new_job Delayed j ∷ l)
  entered_count goes j l true =
      count_insert g (λ a b. goes (bare a) (bare b)) (new_job Released j) l ∙ ap (λ z. cond z (suc (count_by g l)) (count_by g l)) (blind (new_job Delayed j))
  entered_count goes j l false = count_insert g (λ a b. goes (bare a) (bare b)) (new_job Delayed j) l

  pub moved_count : (goes : Order) (new : Tick → ℕ → Pending) (r : Option ℕ) (l : List Job) (e : Call)
      → count_by g (moved goes new r l e).jobs ≡ count_by g (map (new_job Delayed) (makes new e) ++ staying r l e)
  moved_count goes new r l (Wait t) = refl
  moved_count goes new r l (Activate t n) = entered_count goes (new t n) l (is_first goes (new t n) l)
  moved_count goes new r l (Terminate t) = settled_count (without r l)
  moved_count goes new r l (Chain t n) =
      settled_count (insert goes (new_job Delayed (new t n)) (without r l))
      ∙ count_insert g (λ a b. goes (bare a) (bare b)) (new_job Delayed (new t n)) (without r l)
