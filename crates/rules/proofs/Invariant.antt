-- What holds of the list and the ready queue after each call, on any table. What a job has over the released ones behind it is a
-- parameter P: on any table they are of other tasks, on one that keeps the rule they have lower priorities. Assumes nothing.
use Prim.Native.Nat.{ℕ, ◌≤◌}
use mathlib.Core.Path.{◌≡◌, refl, ap, sym, ◌∙◌, subst⁻¹}
use mathlib.Core.Bool.{Bool, true, false, cond, ◌&&◌}
use mathlib.Core.List.{List, [], ◌∷◌, ◌++◌, map}
use mathlib.Core.Option.{Option, some, none}
use lib.Dec.{eqb}
use native.Mathlib.Omega.{arith}
use borrow.Author.Tests.{eqb-true, eqb-false, eq-eqb, ne_eqb}
use Rattle.rules.specs.declared.Tick.{Tick}
use Rattle.rules.specs.declared.Phase.{Phase}
use Rattle.rules.specs.declared.Phase.TheVariants.{Delayed, Released}
use Rattle.rules.specs.Words.{All, Pairs}
use Rattle.rules.specs.Table.{Table}
use Rattle.rules.specs.Jobs.{Job, Pending, bare, new_job, before}
use Rattle.rules.specs.Kernel.{remove, dequeued}
use Rattle.rules.specs.Late.{marked_at}
use Rattle.rules.specs.Layer.{Board, insert, is_first, is_released, without}
use Rattle.rules.specs.Statement.{pushed, released_of, FirstReleased}
use Rattle.rules.proofs.Lists.{all_map, all_over, pairs_over, all_insert}
use Rattle.rules.proofs.Order.{Made, asym, through, Ranking}

abbrev Live : Phase → Type 0
Live Delayed = ⊥
Live Released = Unit {0}

pub not_live {ℓ} : {A : Type ℓ} → Delayed ≡ Released → A
not_live e = absurd (subst⁻¹ Live e tt)

-- ---- the invariant

-- j stands in front of k
pub record Ahead (T : Table) (P : ℕ → ℕ → Type 0) (j : Pending) (k : Job) : Type 0 where
  pub order : before T (bare k) j ≡ false
  pub over : k.phase ≡ Released → P j.task k.task

abbrev pub Ordered : Table → (ℕ → ℕ → Type 0) → List Job → Type 0
Ordered T P l = Pairs (λ j k. Ahead T P (bare j) k) l

-- what holds of each job by itself
pub record Sound (T : Table) (now : Tick) (j : Job) : Type 0 where
  pub made : Made T now (bare j)

-- the list and the ready queue
pub record Lined (T : Table) (P : ℕ → ℕ → Type 0) (jobs : List Job) (ready : List ℕ) : Type 0 where
  pub ordered : Ordered T P jobs
  pub first : FirstReleased jobs
  pub queue : ready ≡ released_of jobs

pub record GoodOf (T : Table) (P : ℕ → ℕ → Type 0) (now : Tick) (jobs : List Job) (ready : List ℕ) : Type 0 where
  pub sound : All (Sound T now) jobs
  pub lined : Lined T P jobs ready

abbrev pub Good : Table → (ℕ → ℕ → Type 0) → Board → Type 0
Good T P b = GoodOf T P b.last b.jobs b.ready

-- ---- time moves, and late jobs are marked: nothing else changes

released_marked : (t : Tick) (l : List Job) → released_of (map (marked_at t) l) ≡ released_of l
released_marked t [] = refl
released_marked t (j ∷ l) = ap (pushed j.phase j.task) (released_marked t l)

first_marked : (t : Tick) (l : List Job) → FirstReleased l → FirstReleased (map (marked_at t) l)
first_marked t [] h = h
first_marked t (j ∷ l) h = h

pub marked_good : (T : Table) (P : ℕ → ℕ → Type 0) (s t : Tick) → s.0 ≤ t.0 → (l : List Job) (q : List ℕ) → GoodOf T P s l q → GoodOf T P t (map (marked_at t) l) q
marked_good T P s t h l q g =
    record {
      sound = all_over (Sound T s) (Sound T t) (marked_at t) later l g.sound;
      lined = record {
        ordered = pairs_over (λ j k. Ahead T P (bare j) k) (λ j k. Ahead T P (bare j) k) (marked_at t) (λ j k a. record { order = a.order; over = a.over }) l g.lined.ordered;
        first = first_marked t l g.lined.first;
        queue = g.lined.queue ∙ sym (released_marked t l);
      };
    }
  where
    later : (j : Job) → Sound T s j → Sound T t (marked_at t j)
    later j m = record { made = record { known = m.made.known; dues = m.made.dues; past = omega (arith, m.made.past) } }

-- ---- the running job leaves the list and the queue

remove_last : (n : ℕ) (q : List ℕ) → All (λ m. n ≡ m → ⊥) q → remove n (q ++ (n ∷ [])) ≡ q
remove_last n [] h = ap (λ z. cond z [] (n ∷ [])) (eq-eqb n n refl)
remove_last n (m ∷ q) h =
    ap (λ z. cond z (q ++ (n ∷ [])) (m ∷ remove n (q ++ (n ∷ [])))) (ne_eqb n m h.0) ∙ ap (λ z. m ∷ z) (remove_last n q h.1)

remove_before : (n m : ℕ) (q : List ℕ) → (n ≡ m → ⊥) → remove n (q ++ (m ∷ [])) ≡ remove n q ++ (m ∷ [])
remove_before n m [] h = ap (λ z. cond z [] (m ∷ [])) (ne_eqb n m h)
remove_before n m (k ∷ q) h = go (eqb n k) (remove_before n m q h)
  where
    go : (t : Bool) → remove n (q ++ (m ∷ [])) ≡ remove n q ++ (m ∷ [])
        → cond t (q ++ (m ∷ [])) (k ∷ remove n (q ++ (m ∷ []))) ≡ cond t q (k ∷ remove n q) ++ (m ∷ [])
    go true ih = refl
    go false ih = ap (λ z. k ∷ z) ih

-- a fact of the released jobs is one of the queue
pub all_released : (Q : ℕ → Type 0) (l : List Job) → All (λ (k : Job). k.phase ≡ Released → Q k.task) l → All Q (released_of l)
all_released Q [] h = tt
all_released Q (j ∷ l) h = go j.phase h.0 (all_released Q l h.1)
  where
    push : (n : ℕ) (q : List ℕ) → Q n → All Q q → All Q (q ++ (n ∷ []))
    push n [] a b = (a, tt)
    push n (m ∷ q) a b = (b.0, push n q a b.1)

    go : (s : Phase) → (s ≡ Released → Q j.task) → All Q (released_of l) → All Q (pushed s j.task (released_of l))
    go Delayed a b = b
    go Released a b = push j.task (released_of l) (a refl) b

module _ (T : Table) (P : ℕ → ℕ → Type 0) (rank : Ranking T P) where
  -- all that the queue holds of the jobs behind j
  pub behind : (j : Pending) (l : List Job) → All (Ahead T P j) l → All (P j.task) (released_of l)
  behind j l h = all_released (P j.task) l (all_map (λ k a. a.over) l h)

  pub ends : (r : Option ℕ) (l : List Job) → Ordered T P l → dequeued r (released_of l) ≡ released_of (without r l)
  ends none l o = refl
  ends (some n) [] o = refl
  ends (some n) (j ∷ l) o = go j.phase (eqb n j.task) refl refl (ends (some n) l o.1)
    where
      go : (s : Phase) (t : Bool) → j.phase ≡ s → eqb n j.task ≡ t → remove n (released_of l) ≡ released_of (without (some n) l)
          → remove n (pushed s j.task (released_of l)) ≡ released_of (cond (t && is_released s) l (j ∷ without (some n) l))
      go Delayed true p e ih = ih ∙ ap (λ z. pushed z j.task (released_of (without (some n) l))) (sym p)
      go Delayed false p e ih = ih ∙ ap (λ z. pushed z j.task (released_of (without (some n) l))) (sym p)
      go Released true p e ih =
          let q : n ≡ j.task = eqb-true n j.task e in
          ap (λ z. remove z (released_of l ++ (j.task ∷ []))) q
          ∙ remove_last j.task (released_of l) (all_map (λ m a d. rank.apart j.task m a d) (released_of l) (behind (bare j) l o.0))
      go Released false p e ih =
          remove_before n j.task (released_of l) (eqb-false n j.task e)
          ∙ ap (λ z. z ++ (j.task ∷ [])) ih
          ∙ ap (λ z. pushed z j.task (released_of (without (some n) l))) (sym p)

  -- ---- a new job

  module _ (j : Pending) (mj : Made T j.since j) where
    over_one : (k : Job) → Sound T j.since k → before T j (bare k) ≡ true → Ahead T P j k
    over_one k mk h = record { order = asym T j (bare k) h; over = λ f. rank.newer j (bare k) mj mk.made h }

    over_all : (k : Job) (l : List Job) → before T j (bare k) ≡ true → All (Sound T j.since) l → All (Ahead T P (bare k)) l → All (Ahead T P j) l
    over_all k [] h m o = tt
    over_all k (i ∷ l) h m o = (over_one i m.0 (through T j (bare k) (bare i) h o.0.order), over_all k l h m.1 o.1)

    -- it has what it takes over all that it goes before
    goes_over : (k : Job) (l : List Job) → before T j (bare k) ≡ true → All (Sound T j.since) (k ∷ l) → Ordered T P (k ∷ l) → All (Ahead T P j) (k ∷ l)
    goes_over k l h m o = (over_one k m.0 h, over_all k l h m.1 o.0)

    pub over_first : (l : List Job) → is_first (before T) j l ≡ true → All (Sound T j.since) l → Ordered T P l → All (Ahead T P j) l
    over_first [] h m o = tt
    over_first (k ∷ l) h m o = goes_over k l h m o

    -- and what it goes behind has nothing to show, as it is delayed
    goes_under : (k : Job) → before T j (bare k) ≡ false → Ahead T P (bare k) (new_job Delayed j)
    goes_under k h = record { order = h; over = λ f. not_live f }

    pub insert_ordered : (l : List Job) → All (Sound T j.since) l → Ordered T P l → Ordered T P (insert (before T) (new_job Delayed j) l)
    insert_ordered [] m o = (tt, tt)
    insert_ordered (k ∷ l) m o = go (before T j (bare k)) refl (insert_ordered l m.1 o.1)
      where
        go : (t : Bool) → before T j (bare k) ≡ t → Ordered T P (insert (before T) (new_job Delayed j) l)
            → Ordered T P (cond t (new_job Delayed j ∷ k ∷ l) (k ∷ insert (before T) (new_job Delayed j) l))
        go true e ih = (goes_over k l e m o, o)
        go false e ih =
            (all_insert (Ahead T P (bare k)) (λ a b. before T (bare a) (bare b)) (new_job Delayed j) l (goes_under k e) o.0, ih)

-- a delayed job is not in the queue
pub insert_released : (T : Table) (j : Pending) (l : List Job) → released_of (insert (before T) (new_job Delayed j) l) ≡ released_of l
insert_released T j [] = refl
insert_released T j (k ∷ l) = go (before T j (bare k)) (insert_released T j l)
  where
    go : (t : Bool) → released_of (insert (before T) (new_job Delayed j) l) ≡ released_of l
        → released_of (cond t (new_job Delayed j ∷ k ∷ l) (k ∷ insert (before T) (new_job Delayed j) l)) ≡ released_of (k ∷ l)
    go true ih = refl
    go false ih = ap (pushed k.phase k.task) ih

-- a first job goes to the front
pub insert_first : (T : Table) (s : Phase) (j : Pending) (l : List Job) → is_first (before T) j l ≡ true → insert (before T) (new_job s j) l ≡ new_job s j ∷ l
insert_first T s j [] h = refl
insert_first T s j (k ∷ l) h = ap (λ z. cond z (new_job s j ∷ k ∷ l) (k ∷ insert (before T) (new_job s j) l)) h

-- any other leaves the first where it is
pub insert_behind : (T : Table) (s : Phase) (j : Pending) (l : List Job) → is_first (before T) j l ≡ false → FirstReleased l → FirstReleased (insert (before T) (new_job s j) l)
insert_behind T s j [] h f = let z : ◌≡◌ {A = ℕ} 0 1 = cc in absurd (omega arith)
insert_behind T s j (k ∷ l) h f = rw h f
