-- The limits leave room: where no task is above its limit, there are at most as many jobs as the limits add up to. So 10 never arises. Assumes nothing.
use Prim.Native.Nat.{ℕ, zero, suc, ◌+◌, ◌<◌, ◌≤◌}
use mathlib.Core.Path.{◌≡◌, refl, ap, sym, ◌∙◌, subst}
use mathlib.Core.Bool.{Bool, true, false, cond}
use mathlib.Core.List.{List, [], ◌∷◌, ◌++◌, map}
use mathlib.Core.Option.{Option}
use lib.ListN.{length, get_or, length-map}
use lib.Dec.{eqb, eqb-zero-suc, eqb-suc-zero, eqb-suc-suc}
use native.Mathlib.Omega.{arith}
use borrow.Author.Tests.{eqb-true, eq-eqb}
use Rattle.rules.specs.declared.Tick.{Tick}
use Rattle.rules.specs.declared.Line.{Line}
use Rattle.rules.specs.declared.Phase.TheVariants.{Delayed}
use Rattle.rules.specs.declared.Call.{Call}
use Rattle.rules.specs.declared.Call.TheVariants.{Wait, Activate, Terminate, Chain}
use Rattle.rules.specs.Words.{unless, count_by, count}
use Rattle.rules.specs.Table.{Table, size, no_line, limits, limit_of, Passes}
use Rattle.rules.specs.Jobs.{Job, Pending, accepted, new_job, before}
use Rattle.rules.specs.Calls.{tick_of}
use Rattle.rules.specs.Late.{marked_at}
use Rattle.rules.specs.Layer.{Board, fresh, next, done, marked, result, viewed, without, moved, tasks, running}
use Rattle.rules.specs.Run.{run}
use Rattle.rules.specs.Statement.{NoTen}
use Rattle.rules.specs.History.{makes}
use Rattle.rules.proofs.Lists.{count_map}
use Rattle.rules.proofs.Moves.{count_without, without_marked, staying, moved_count}
use Rattle.rules.proofs.Checked.{listed_line}
use Rattle.rules.proofs.Refusals.{view_exact, not_given}
use Rattle.rules.proofs.Allowed.{allowed}

-- no task is above its limit; the limit of a task without a line is 0
abbrev listed_limit : Table → ℕ → ℕ
listed_limit T n = (get_or T.lines n no_line).limit

abbrev Fits : Table → List ℕ → Type 0
Fits T l = (n : ℕ) → count n l ≤ listed_limit T n

-- ---- so many tasks are at most as many as the limits, line by line

-- the tasks but 0, each counted from 1
abbrev shift : List ℕ → List ℕ
shift [] = []
shift (zero ∷ l) = shift l
shift (suc m ∷ l) = m ∷ shift l

length_shift : (l : List ℕ) → length l ≡ count 0 l + length (shift l)
length_shift [] = refl
length_shift (zero ∷ l) = let ih = length_shift l in omega arith
length_shift (suc m ∷ l) = let ih = length_shift l in rw (eqb-zero-suc m) (omega arith)

count_shift : (n : ℕ) (l : List ℕ) → count n (shift l) ≡ count (suc n) l
count_shift n [] = refl
count_shift n (zero ∷ l) = count_shift n l ∙ sym (ap (λ z. cond z (suc (count (suc n) l)) (count (suc n) l)) (eqb-suc-zero n))
count_shift n (suc m ∷ l) =
    ap (λ z. cond (eqb n m) (suc z) z) (count_shift n l)
    ∙ sym (ap (λ z. cond z (suc (count (suc n) l)) (count (suc n) l)) (eqb-suc-suc n m))

none_left : (l : List ℕ) → ((n : ℕ) → count n l ≤ 0) → length l ≡ 0
none_left [] h = refl
none_left (m ∷ l) h =
    let z : count m (m ∷ l) ≡ suc (count m l) = ap (λ z. cond z (suc (count m l)) (count m l)) (eq-eqb m m refl) in
    absurd (omega (arith, h m))

room : (xs : List Line) (l : List ℕ) → ((n : ℕ) → count n l ≤ (get_or xs n no_line).limit) → length l ≤ limits xs
room [] l h = let z = none_left l h in omega arith
room (x ∷ xs) l h =
    let ih = room xs (shift l) (λ n. subst (λ z. z ≤ (get_or xs n no_line).limit) (sym (count_shift n l)) (h (suc n))) in
    omega (arith, length_shift l, h 0)

-- ---- every call keeps the limits

-- one more of a task that is below its limit
one_more : (T : Table) (n : ℕ) (l : List ℕ) → n < size T → count n l < limit_of T n → Fits T l → Fits T (n ∷ l)
one_more T n l known h f m = go (eqb m n) refl
  where
    below : count n l < listed_limit T n
    below = let e = ap (λ (x : Line). x.limit) (listed_line T n known) in omega arith

    go : (t : Bool) → eqb m n ≡ t → cond t (suc (count m l)) (count m l) ≤ listed_limit T m
    go true e = subst (λ z. count z l < listed_limit T z) (sym (eqb-true m n e)) below
    go false e = f m

marked_tasks : (t : Tick) (l : List Job) → tasks (map (marked_at t) l) ≡ tasks l
marked_tasks t [] = refl
marked_tasks t (j ∷ l) = ap (λ z. j.task ∷ z) (marked_tasks t l)

marked_staying : (t : Tick) (r : Option ℕ) (l : List Job) (e : Call) → tasks (staying r (map (marked_at t) l) e) ≡ tasks (staying r l e)
marked_staying t r l (Wait s) = marked_tasks t l
marked_staying t r l (Activate s n) = marked_tasks t l
marked_staying t r l (Terminate s) = ap tasks (without_marked t r l) ∙ marked_tasks t (without r l)
marked_staying t r l (Chain s n) = ap tasks (without_marked t r l) ∙ marked_tasks t (without r l)

count_tasks : (n : ℕ) (l : List Job) → count n (tasks l) ≡ count_by (λ (j : Job). eqb n j.task) l
count_tasks n l = count_map (eqb n) (λ (j : Job). j.task) l

-- those that stay are no more
without_fits : (T : Table) (r : Option ℕ) (l : List Job) → Fits T (tasks l) → Fits T (tasks (without r l))
without_fits T r l h n =
    let a = h n in
    let b = count_without (λ (j : Job). eqb n j.task) r l in
    omega (arith, count_tasks n l, count_tasks n (without r l))

staying_fits : (T : Table) (r : Option ℕ) (l : List Job) (e : Call) → Fits T (tasks l) → Fits T (tasks (staying r l e))
staying_fits T r l (Wait t) h = h
staying_fits T r l (Activate t n) h = h
staying_fits T r l (Terminate t) h = without_fits T r l h
staying_fits T r l (Chain t n) h = without_fits T r l h

-- and the one that comes is of a task below its limit
coming_fits : (T : Table) (b : Board) (e : Call) → result T b e ≡ 0 → Fits T (tasks (staying (running T b) b.jobs e))
    → Fits T (map (λ (j : Pending). j.task) (makes (accepted T) e) ++ tasks (staying (running T b) b.jobs e))
coming_fits T b (Wait t) z h = h
coming_fits T b (Activate t n) z h =
    let a = allowed T (viewed T b) (Activate t n) z in one_more T n (tasks b.jobs) a.enters.known a.enters.below h
coming_fits T b (Terminate t) z h = h
coming_fits T b (Chain t n) z h =
    let a = allowed T (viewed T b) (Chain t n) z in
    one_more T n (tasks (without (running T b) b.jobs)) a.enters.known a.enters.below h

-- the tasks of what a call leaves, in any order
moved_tasks : (T : Table) (n : ℕ) (r : Option ℕ) (l : List Job) (e : Call)
    → count n (tasks (moved (before T) (accepted T) r l e).jobs) ≡ count n (map (λ (j : Pending). j.task) (makes (accepted T) e) ++ tasks (staying r l e))
moved_tasks T n r l e =
    count_tasks n (moved (before T) (accepted T) r l e).jobs
    ∙ moved_count (λ (j : Job). eqb n j.task) (λ j. refl) (before T) (accepted T) r l e
    ∙ sym (count_tasks n (map (new_job Delayed) (makes (accepted T) e) ++ staying r l e)) ∙ ap (count n) (split e)
  where
    split : (e : Call) → tasks (map (new_job Delayed) (makes (accepted T) e) ++ staying r l e) ≡ map (λ (j : Pending). j.task) (makes (accepted T) e) ++ tasks (staying r l e)
    split (Wait t) = refl
    split (Activate t m) = refl
    split (Terminate t) = refl
    split (Chain t m) = refl

next_fits : (T : Table) (b : Board) (e : Call) → Fits T (tasks b.jobs) → Fits T (tasks (next T b e).jobs)
next_fits T b e h = go (result T b e) refl
  where
    come : List ℕ
    come = map (λ (j : Pending). j.task) (makes (accepted T) e)

    go : (k : ℕ) → result T b e ≡ k → Fits T (tasks (unless k b (done T (marked (tick_of e) b) e)).jobs)
    go zero z =
        λ n.
        subst (λ m. m ≤ listed_limit T n)
        (sym (moved_tasks T n (running T b) (map (marked_at (tick_of e)) b.jobs) e ∙ ap (λ x. count n (come ++ x)) (marked_staying (tick_of e) (running T b) b.jobs e)))
        (coming_fits T b e z (staying_fits T (running T b) b.jobs e h) n)
    go (suc k) z = h

run_fits : (T : Table) (b : Board) (es : List Call) → Fits T (tasks b.jobs) → Fits T (tasks (run T b es).jobs)
run_fits T b [] h = h
run_fits T b (e ∷ es) h = run_fits T (next T b e) es (next_fits T b e h)

-- ---- so the list has room

pub room_for_all : (T : Table) → Passes T → (calls : List Call) → length (run T fresh calls).jobs ≤ 32
room_for_all T p calls =
    let l = (run T fresh calls).jobs in
    omega (arith, room T.lines (tasks l) (run_fits T fresh calls (λ n. omega arith)), length-map l (λ (j : Job). j.task), p.summed)

-- a full list whose limits leave room for one more: none
full : (T : Table) → Passes T → (b : Board) → Fits T (tasks b.jobs) → (t : Tick) (n : ℕ) → result T b (Activate t n) ≡ 10 → ⊥
full T p b f t n z =
    let h = (view_exact T (viewed T b) (Activate t n)).1.1.1.0.0 z in
    let known : ¬ (size T ≤ n) = h.0.0.1 in
    let below : ¬ (limit_of T n ≤ count n (tasks b.jobs)) = h.0.1 in
    let c = room T.lines (n ∷ tasks b.jobs) (one_more T n (tasks b.jobs) (omega arith) (omega arith) f) in
    omega (arith, h.1, p.summed)

not_ten : (T : Table) → Passes T → (b : Board) → Fits T (tasks b.jobs) → (e : Call) → result T b e ≡ 10 → ⊥
not_ten T p b f (Wait t) z = not_given T (viewed T b) (Wait t) 10 (omega arith) (sym z)
not_ten T p b f (Activate t n) z = full T p b f t n z
not_ten T p b f (Terminate t) z = not_given T (viewed T b) (Terminate t) 10 (omega arith) (sym z)
not_ten T p b f (Chain t n) z = not_given T (viewed T b) (Chain t n) 10 (omega arith) (sym z)

pub no_ten : NoTen
no_ten T p calls e z = not_ten T p (run T fresh calls) (run_fits T fresh calls (λ n. omega arith)) e z
