-- Loops that read a list from the front: a turn, and the end. Assumes nothing.
use Prim.Native.Nat.{ℕ, zero, suc, ◌+◌, ◌<◌}
use mathlib.Core.Path.{◌≡◌, refl, sym}
use mathlib.Core.Bool.{Bool, true, false, cond}
use mathlib.Core.List.{List, [], ◌∷◌}
use native.Mathlib.Omega.{arith}
use lib.Dec.{eqb, eqb-suc-zero}
use lib.ListN.{length, get_or, take}
use Rattle.rules.specs.declared.Job.{Job}
use Rattle.rules.specs.Words.{only}
use Rattle.jobs.specs.declared.JobList.{JobList}
use Rattle.std.specs.Prelude.{Some}
use Rattle.std.specs.List.{count_by, find}
use Rattle.std.proofs.lemmas.List.Recursion.{is_count_by}
use Rattle.jobs.specs.Listed.{blank_job, view, goes_before, is_first_in, insert_due, is_of, pending_of, first_in, lead_of, lead_with}

-- ---- the first job

first_in_some : (n : ℕ) (xs : List Job) → 0 < length xs → cond (eqb n 0) blank_job (get_or xs 0 blank_job) ≡ first_in (take n xs)
unfolding first_in
first_in_some zero xs h = refl
first_in_some (suc n) [] h = absurd (omega (arith, h))
first_in_some (suc n) (x ∷ xs) h = rw (eqb-suc-zero n)

pub first_law : (l : JobList) → 0 < length l.jobs → cond (eqb l.count 0) blank_job (get_or l.jobs 0 blank_job) ≡ first_in (view l)
first_law l h = first_in_some l.count l.jobs h

first_of_some : (j : Job) (n : ℕ) (xs : List Job) → 0 < length xs → cond (eqb n 0) true (goes_before j (get_or xs 0 blank_job)) ≡ is_first_in j (take n xs)
unfolding is_first_in
first_of_some j zero xs h = refl
first_of_some j (suc n) [] h = absurd (omega (arith, h))
first_of_some j (suc n) (x ∷ xs) h = rw (eqb-suc-zero n)

pub is_first_law : (l : JobList) (j : Job) → 0 < length l.jobs → cond (eqb l.count 0) true (goes_before j (get_or l.jobs 0 blank_job)) ≡ is_first_in j (view l)
is_first_law l j h = first_of_some j l.count l.jobs h

-- ---- jobs of a task, in std's words

pub pending_law : (t : ℕ) (xs : List Job) → count_by (is_of t) xs ≡ pending_of t xs
unfolding pending_of
pending_law t xs = sym (is_count_by (pending_of t) (is_of t) refl (λ x l. go (is_of t x) (pending_of t l)) xs)
  where
    go : (b : Bool) (n : ℕ) → cond b (suc n) n ≡ cond b (1 + n) n
    go true n = omega arith
    go false n = refl

pub own_law : (t : ℕ) (xs : List Job) → find (is_of t) xs ≡ lead_of (only (is_of t) xs)
own_law t [] = refl
own_law t (x ∷ xs) = go (is_of t x) (own_law t xs)
  where
    go : (b : Bool) → find (is_of t) xs ≡ lead_of (only (is_of t) xs) → cond b (Some x) (find (is_of t) xs) ≡ lead_of (cond b (x ∷ only (is_of t) xs) (only (is_of t) xs))
    go true ih = refl
    go false ih = ih

-- ---- the job that leads

-- where a new job enters, it leads or the one that led
pub lead_with_lem : (b : Bool) (j : Job) (xs : List Job) → lead_with b j (lead_of xs) ≡ lead_of (cond b (insert_due j xs) xs)
unfolding insert_due
lead_with_lem false j xs = refl
lead_with_lem true j [] = refl
lead_with_lem true j (x ∷ xs) = go (goes_before j x)
  where
    go : (b : Bool) → cond b (Some j) (Some x) ≡ lead_of (cond b (j ∷ x ∷ xs) (x ∷ insert_due j xs))
    go true = refl
    go false = refl
