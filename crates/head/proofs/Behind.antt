-- What is behind the pending jobs of a state that was handed out: blanks, before a call and after it. And tick leaves the jobs as they are. Assumes nothing.
use Prim.Native.Nat.{ℕ, zero, suc, ◌+◌, ◌-◌, ◌≤◌, max}
use mathlib.Core.Path.{◌≡◌, refl, sym, ap, ◌∙◌}
use mathlib.Core.List.{List, [], ◌∷◌, map}
use native.Mathlib.Omega.{arith}
use lib.ListN.{length, drop, replicate, length-replicate, replicate-append-replicate}
use lib.Seq.{drop_at}
use Rattle.rules.specs.Words.{places, unless}
use Rattle.rules.specs.declared.Tick.{Tick}
use Rattle.rules.specs.declared.Job.{Job as Entry}
use Rattle.rules.specs.declared.Call.TheVariants.{Wait}
use Rattle.rules.specs.Table.{Table}
use Rattle.rules.specs.Jobs.{Job}
use Rattle.rules.specs.Late.{marked_at}
use Rattle.rules.specs.Layer.{Board, marked, done, result}
use Rattle.jobs.specs.declared.JobList.{JobList}
use Rattle.jobs.specs.Listed.{blank_job, view, pack, Shaped}
use Rattle.jobs.proofs.Laid.{view_length}
use Rattle.scheduler.specs.declared.State.{State}
use Rattle.scheduler.specs.declared.Stepped.{Stepped}
use Rattle.scheduler.specs.State.{kept, job_back, state_of, table_of, board_of, head_of, told, step_of, Handed}
use Rattle.scheduler.proofs.Handed.{handed_shaped}
use Rattle.head.specs.declared.HeadState.{HeadState}
use Rattle.head.specs.Placed.{placed_job, job_in, state_in, HeadHanded}
use Rattle.head.proofs.Back.{places_back}
use Rattle.head.proofs.Copies.{same_behind}

-- ---- blanks

abbrev blanks : List Entry
blanks = replicate places blank_job

blanks_from : (n : ℕ) → n ≤ places → drop n blanks ≡ replicate (places - n) blank_job
blanks_from n h =
    let k : n + (places - n) ≡ places = omega (arith, h) in
    ap (λ (m : ℕ). drop n (replicate m blank_job)) (sym k)
    ∙ ap (drop n) (sym (replicate-append-replicate n (places - n) blank_job))
    ∙ drop_at (replicate n blank_job) (replicate (places - n) blank_job) n (length-replicate n blank_job)

-- behind the jobs of a list
listed_behind : (l : JobList) → Shaped l → drop l.count l.jobs ≡ drop l.count blanks
unfolding pack
listed_behind l s =
    ap (λ (x : JobList). drop l.count x.jobs) s.blanks
    ∙ drop_at (view l) (replicate (places - length (view l)) blank_job) l.count (view_length l s)
    ∙ ap (λ (n : ℕ). replicate (places - n) blank_job) (view_length l s)
    ∙ sym (blanks_from l.count s.small)

-- ---- before a call

shaped_in : (p : HeadState) → HeadHanded p → Shaped (record { jobs = map job_in p.jobs; count = p.count })
unfolding state_in
shaped_in p k = handed_shaped (state_in p) k

pub blank_behind : (p : HeadState) → HeadHanded p → (p.count ≤ places) × (drop p.count (replicate places blank_job) ≡ drop p.count (map job_in p.jobs))
blank_behind p k =
    let s = shaped_in p k in
    (s.small, sym (listed_behind (record { jobs = map job_in p.jobs; count = p.count }) s))

-- ---- and after it

drop_map : {A B : Type 0} (f : A → B) (n : ℕ) (l : List A) → drop n (map f l) ≡ map f (drop n l)
drop_map f zero l = refl
drop_map f (suc n) [] = refl
drop_map f (suc n) (x ∷ l) = drop_map f n l

pub left_behind : (p : HeadState) (s : State) (m : ℕ) → HeadHanded p → Handed s → m ≡ max p.count s.list.count → (m ≤ places) × (drop m p.jobs ≡ drop m (map placed_job s.list.jobs))
left_behind p s m k h e =
    let before = blank_behind p k in
    let t = handed_shaped s h in
    let x : drop m (map job_in p.jobs) ≡ drop m blanks = same_behind (map job_in p.jobs) blanks p.count m (omega (arith, e)) (sym before.1) in
    let y : drop m s.list.jobs ≡ drop m blanks = same_behind s.list.jobs blanks s.list.count m (omega (arith, e)) (listed_behind s.list t) in (
      omega (arith, e, before.0, t.small),
      ap (drop m) (sym (places_back p.jobs))
          ∙ drop_map placed_job m (map job_in p.jobs)
          ∙ ap (map placed_job) (x ∙ sym y)
          ∙ sym (drop_map placed_job m s.list.jobs),
    )

-- ---- tick

kept_marked : (t : Tick) (l : List Job) → map kept (map (marked_at t) l) ≡ map kept l
kept_marked t [] = refl
kept_marked t (j ∷ l) = ap {B = List Entry} (λ r. kept j ∷ r) (kept_marked t l)

kept_back : (T : Table) (last : Tick) (l : List Entry) → map kept (map (job_back T last) l) ≡ l
kept_back T last [] = refl
kept_back T last (x ∷ l) = ap {B = List Entry} (λ r. x ∷ r) (kept_back T last l)

waited : (T : Table) (b : Board) (t : Tick) (k : ℕ) → map kept (unless k b (done T (marked t b) (Wait t))).jobs ≡ map kept b.jobs
waited T b t zero = kept_marked t b.jobs
waited T b t (suc k) = refl

-- the list is as it was
tick_list : (s : State) → Handed s → (t : Tick) → (step_of s (Wait t)).state.list ≡ s.list
unfolding step_of told state_of head_of
tick_list s h t =
    ap pack (waited (table_of s) (board_of s) t (result (table_of s) (board_of s) (Wait t)) ∙ kept_back (table_of s) s.last (view s.list))
    ∙ sym (handed_shaped s h).blanks

jobs_of_in : (p : HeadState) → (state_in p).list.jobs ≡ map job_in p.jobs
unfolding state_in
jobs_of_in p = refl

pub tick_leaves : (p : HeadState) (s : State) (n : Stepped) (t : Tick) → HeadHanded p → s ≡ state_in p → n ≡ step_of s (Wait t) → p.jobs ≡ map placed_job n.state.list.jobs
tick_leaves p s n t k q e =
    let same : n.state.list.jobs ≡ map job_in p.jobs =
    ap (λ (x : Stepped). x.state.list.jobs) (e ∙ ap (λ (x : State). step_of x (Wait t)) q)
    ∙ ap (λ (l : JobList). l.jobs) (tick_list (state_in p) k t)
    ∙ jobs_of_in p in
    sym (places_back p.jobs) ∙ ap (map placed_job) (sym same)
