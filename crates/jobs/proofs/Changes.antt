-- What the functions that change a list make of it, blanks behind it and all. Assumes nothing.
use Prim.Native.Nat.{ℕ, suc, ◌+◌, ◌-◌, ◌≤◌, ◌<◌}
use mathlib.Core.Path.{◌≡◌, refl, sym, ap, ◌∙◌}
use mathlib.Core.Bool.{Bool, true, false, cond}
use mathlib.Core.List.{List, [], ◌∷◌, ◌++◌}
use native.Mathlib.Nat.{not-suc-le-zero}
use native.Mathlib.Omega.{arith}
use borrow.Author.Tests.{lt-ltb}
use lib.ListN.{length, take, drop, replicate}
use lib.Seq.{take-append_seam, drop-append-add}
use Rattle.rules.specs.Words.{places}
use Rattle.rules.specs.declared.Job.{Job}
use Rattle.jobs.specs.declared.JobList.{JobList}
use Rattle.jobs.specs.Listed.{blank_job, view, pack, Shaped, Sorted, goes_before, insert_due, release_first, lead_of}
use Rattle.jobs.specs.Inside.{enter_at, slide, slide_at, led}
use Rattle.rules.proofs.Lists.{length_insert as inserted-length}
use Rattle.jobs.proofs.Laid.{view_length, view_pack}

-- ---- a new job goes in at its place

enter_padded : (j : Job) (xs : List Job) (m : ℕ) → enter_at (length xs) j (xs ++ replicate (suc m) blank_job) ≡ insert_due j xs ++ replicate m blank_job
unfolding enter_at
enter_padded j xs m =
    let bl = replicate (suc m) blank_job in
    let e : suc (length xs) ≡ length xs + 1 = omega arith in
    let b : drop (suc (length xs)) (xs ++ bl) ≡ replicate m blank_job = ap (λ k. drop k (xs ++ bl)) e ∙ drop-append-add xs bl 1 in
    λ i. insert_due j (take-append_seam xs bl i) ++ b i

pub length_insert : (j : Job) (xs : List Job) → length (insert_due j xs) ≡ suc (length xs)
unfolding insert_due
length_insert j xs = inserted-length goes_before j xs

-- ---- the first job leaves

leave_padded : (x : Job) (xs bl : List Job) → slide (λ (y : Job). false) (length xs) blank_job (x ∷ (xs ++ bl)) ≡ xs ++ blank_job ∷ bl
unfolding slide
leave_padded x [] bl = refl
leave_padded x (y ∷ xs) bl = ap (λ (l : List Job). y ∷ l) (leave_padded y xs bl)

replace_padded : (j x : Job) (xs bl : List Job) → slide (goes_before j) (length xs) j (x ∷ (xs ++ bl)) ≡ insert_due j xs ++ bl
unfolding slide insert_due
replace_padded j x [] bl = refl
replace_padded j x (y ∷ xs) bl = go (goes_before j y) (replace_padded j y xs bl)
  where
    go : (b : Bool) → slide (goes_before j) (length xs) j (y ∷ (xs ++ bl)) ≡ insert_due j xs ++ bl
        → cond b (j ∷ y ∷ (xs ++ bl)) (y ∷ slide (goes_before j) (length xs) j (y ∷ (xs ++ bl))) ≡ cond b (j ∷ y ∷ xs) (y ∷ insert_due j xs) ++ bl
    go true ih = refl
    go false ih = ap (λ (l : List Job). y ∷ l) ih

-- ---- on a list that is laid out

insert_packed : (j : Job) (xs : List Job) → length xs < places
    → ◌≡◌ {A = JobList} (record { jobs = enter_at (pack xs).count j (pack xs).jobs; count = (pack xs).count + 1 }) (pack (insert_due j xs))
unfolding pack
insert_packed j xs h =
    let e : places - length xs ≡ suc ((places - 1) - length xs) = omega arith in
    let f : places - length (insert_due j xs) ≡ (places - 1) - length xs = omega (arith, length_insert j xs) in
    let q : length xs + 1 ≡ length (insert_due j xs) = omega (arith, length_insert j xs) in
    let p : enter_at (length xs) j (xs ++ replicate (places - length xs) blank_job) ≡ insert_due j xs ++ replicate (places - length (insert_due j xs)) blank_job = rw (e, f) (enter_padded j xs ((places - 1) - length xs)) in
    λ i. record { jobs = p i; count = q i }

-- the array once a job has been taken out of its first place, and j put in its own, among l.count jobs
abbrev pub slid : (Job → Bool) → Job → JobList → List Job
slid stop j l = slide_at stop l.count j 0 l.jobs

remove_packed : (xs : List Job) → 0 < length xs → length xs ≤ places
    → ◌≡◌ {A = JobList} (record { jobs = slid (λ (y : Job). false) blank_job (pack xs); count = (pack xs).count - 1 }) (pack (drop 1 xs))
unfolding pack slide_at
remove_packed [] h m = absurd (not-suc-le-zero h)
remove_packed (x ∷ xs) h m =
    let bl = replicate (places - suc (length xs)) blank_job in
    let d : suc (length xs) - 1 ≡ length xs = omega arith in
    let f : places - length xs ≡ suc (places - suc (length xs)) = omega arith in
    let p : slide (λ (y : Job). false) (suc (length xs) - 1) blank_job (x ∷ (xs ++ bl)) ≡ xs ++ replicate (places - length xs) blank_job = rw (d, f) (leave_padded x xs bl) in
    λ i. record { jobs = p i; count = d i }

replace_packed : (j : Job) (xs : List Job) → 0 < length xs → length xs ≤ places
    → ◌≡◌ {A = JobList} (record { jobs = slid (goes_before j) j (pack xs); count = (pack xs).count }) (pack (insert_due j (drop 1 xs)))
unfolding pack slide_at
replace_packed j [] h m = absurd (not-suc-le-zero h)
replace_packed j (x ∷ xs) h m =
    let bl = replicate (places - suc (length xs)) blank_job in
    let d : suc (length xs) - 1 ≡ length xs = omega arith in
    let q : suc (length xs) ≡ length (insert_due j xs) = sym (length_insert j xs) in
    let p : slide (goes_before j) (suc (length xs) - 1) j (x ∷ (xs ++ bl)) ≡ insert_due j xs ++ replicate (places - length (insert_due j xs)) blank_job =
    rw (d, ← q) (replace_padded j x xs bl) in
    λ i. record { jobs = p i; count = q i }

-- the first job is released
led_packed : (xs : List Job) → led (pack xs) ≡ pack (release_first xs)
unfolding pack led release_first
led_packed [] = refl
led_packed (x ∷ xs) = rw (lt-ltb 0 (suc (length xs)) (omega arith))

-- ---- what the functions make

pub insert_law : (l : JobList) → Shaped l → (j : Job) → l.count < places → ◌≡◌ {A = JobList} (record { jobs = enter_at l.count j l.jobs; count = l.count + 1 }) (pack (insert_due j (view l)))
insert_law l s j h =
    ap (λ (x : JobList). record { jobs = enter_at x.count j x.jobs; count = x.count + 1 }) s.blanks ∙ insert_packed j (view l) (omega (arith, view_length l s, h))

-- m is the list once the first job has left, and ys the jobs in it
module _ (m : JobList) (ys : List Job) (e : m ≡ pack ys) where
  pub led_law : led m ≡ pack (release_first ys)
  led_law = ap led e ∙ led_packed ys

  pub lead_law : lead_of (view m) ≡ lead_of ys
  lead_law = ap (λ (l : JobList). lead_of (view l)) e ∙ ap lead_of (view_pack ys)

pub remove_law : (l : JobList) → Shaped l → 0 < l.count → ◌≡◌ {A = JobList} (record { jobs = slid (λ (y : Job). false) blank_job l; count = l.count - 1 }) (pack (drop 1 (view l)))
remove_law l s h =
    ap (λ (x : JobList). record { jobs = slid (λ (y : Job). false) blank_job x; count = x.count - 1 }) s.blanks
    ∙ remove_packed (view l) (omega (arith, view_length l s, h)) (omega (arith, view_length l s, s.small))

pub replace_law : (l : JobList) → Shaped l → (j : Job) → 0 < l.count → ◌≡◌ {A = JobList} (record { jobs = slid (goes_before j) j l; count = l.count }) (pack (insert_due j (drop 1 (view l))))
replace_law l s j h =
    ap (λ (x : JobList). record { jobs = slid (goes_before j) j x; count = x.count }) s.blanks
    ∙ replace_packed j (view l) (omega (arith, view_length l s, h)) (omega (arith, view_length l s, s.small))

-- ---- among how many jobs a call works that is made or not: a refused one among none

module _ (l : JobList) (s : Shaped l) where
  pub aim_less : (b : Bool) → (b ≡ true → l.count < places) → cond b l.count 0 < places
  aim_less true h = h refl
  aim_less false h = omega arith

  pub aim_most : (b : Bool) → cond b l.count 0 ≤ places
  aim_most true = s.small
  aim_most false = omega arith

  -- those are in order, if the list is
  pub aim_sorted : (b : Bool) → Sorted (view l) → Sorted (take (cond b l.count 0) l.jobs)
  aim_sorted true o = o
  aim_sorted false o = tt
