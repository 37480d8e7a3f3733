-- Jobs that go one place back or up: turns of the loops, and what they make of a list with blanks behind it. Assumes nothing.
use Prim.Native.Nat.{ℕ, zero, suc, ◌+◌, ◌-◌, ◌≤◌, ◌<◌}
use mathlib.Core.Path.{◌≡◌, refl, sym, ap, ◌∙◌}
use mathlib.Core.Bool.{Bool, true, false}
use mathlib.Core.List.{List, ◌∷◌, ◌++◌, append_assoc}
use native.Mathlib.Nat.{not-suc-le-zero}
use native.Mathlib.Numerals.{add-one}
use native.Mathlib.Omega.{arith}
use borrow.Author.Tests.{ltb-true, ltb-false, lt-ltb}
use lib.ListN.{length, take, drop, set, get_or, length-take, drop_of_length-le}
use lib.Seq.{drop-cons, take-suc, take-suc-set, drop-set-lt, append_snoc, set_split, take-set-le, take-take, get_or-take, drop_at, length-take-le}
use Rattle.rules.specs.declared.Job.{Job}
use Rattle.rules.specs.Search.{from_back}
use Rattle.rules.proofs.Searched.{Orders, back_last, same_place, insert_at}
use Rattle.jobs.specs.Listed.{blank_job, goes_before, Sorted, insert_due}
use Rattle.jobs.specs.Inside.{enter_at, slide, slide_at}

-- ---- a new job: turns of `enter`

-- behind the jobs there is nothing to move yet
pub enter_start : (xs : List Job) (n : ℕ) → drop (suc n) xs ≡ drop n (take n xs) ++ drop (suc n) xs
enter_start xs n = ap (λ (l : List Job). l ++ drop (suc n) xs) (sym (drop_of_length-le (take n xs) {i = n} (omega (arith, length-take n xs))))

module _ (xs out : List Job) (n k : ℕ) (front : take (suc k) out ≡ take (suc k) xs) where
  -- a job in front of the place stands where it stood
  pub enter_same : get_or out k blank_job ≡ get_or xs k blank_job
  enter_same =
      sym (get_or-take (suc k) out k blank_job (omega arith)) ∙ ap (λ (l : List Job). get_or l k blank_job) front ∙ get_or-take (suc k) xs k blank_job (omega arith)

  pub enter_front : (o : Job) → take k (set out (suc k) o) ≡ take k xs
  enter_front o =
      take-set-le k out (suc k) o (omega arith) ∙ sym (take-take k (suc k) out (omega arith)) ∙ ap (take k) front ∙ take-take k (suc k) xs (omega arith)

  -- it goes one place back
  pub enter_back : k < n → n < length xs → length out ≡ length xs → drop (suc (suc k)) out ≡ drop (suc k) (take n xs) ++ drop (suc n) xs
      → drop (suc k) (set out (suc k) (get_or out k blank_job)) ≡ drop k (take n xs) ++ drop (suc n) xs
  enter_back h m e back =
      let o = get_or out k blank_job in
      let f : get_or out k blank_job ≡ get_or (take n xs) k blank_job = enter_same ∙ sym (get_or-take n xs k blank_job h) in
      let w : k < length (take n xs) = omega (arith, length-take n xs) in
      ap (drop (suc k)) (set_split out (suc k) o (omega arith))
      ∙ drop_at (take (suc k) out) (o ∷ drop (suc (suc k)) out) (suc k) (length-take-le (suc k) out (omega arith))
      ∙ (λ i. f i ∷ back i)
      ∙ ap (λ (l : List Job). l ++ drop (suc n) xs) (sym (drop-cons (take n xs) k blank_job w))

-- the search from the back: past a job that the new one goes before, and behind one that it doesn't
pub back_past : (j : Job) (xs : List Job) (k : ℕ) → k < length xs → goes_before j (get_or xs k blank_job) ≡ true
    → from_back goes_before j (take (suc k) xs) ≡ from_back goes_before j (take k xs)
back_past j xs k h e =
    ap (from_back goes_before j) (take-suc xs k blank_job h) ∙ back_last goes_before j (take k xs) (get_or xs k blank_job) ∙ rw e

pub back_here : (j : Job) (xs : List Job) (k : ℕ) → k < length xs → goes_before j (get_or xs k blank_job) ≡ false → from_back goes_before j (take (suc k) xs) ≡ suc k
back_here j xs k h e =
    ap (from_back goes_before j) (take-suc xs k blank_job h) ∙ back_last goes_before j (take k xs) (get_or xs k blank_job) ∙ rw e (ap suc (length-take-le k xs (omega arith)))

-- what a turn keeps: those in front of place i stand where they stood, those from there on one place back, and the job's place is no further
abbrev pub Entering : List Job → Job → ℕ → List Job → ℕ → Type 0
Entering xs j n out i =
    (take i out ≡ take i xs) × (drop (suc i) out ≡ drop i (take n xs) ++ drop (suc n) xs) × (from_back goes_before j (take i xs) ≡ from_back goes_before j (take n xs))

pub enter_turn : (xs out : List Job) (j : Job) (n i : ℕ) → 0 < i → i ≤ n → n < length xs → length out ≡ length xs
    → goes_before j (get_or out (i - 1) blank_job) ≡ true → Entering xs j n out i → Entering xs j n (set out i (get_or out (i - 1) blank_job)) (i - 1)
enter_turn xs out j n zero z h m e b t = absurd (not-suc-le-zero z)
enter_turn xs out j n (suc k) z h m e b t =
    let q : suc k - 1 ≡ k = omega arith in
    let g : goes_before j (get_or xs k blank_job) ≡ true = ap (λ (x : Job). goes_before j x) (sym (enter_same xs out n k t.0)) ∙ (rw q at b) in
    rw q
    (enter_front xs out n k t.0 _, enter_back xs out n k t.0 (omega arith) m e t.1, sym (back_past j xs k (omega arith) g) ∙ t.2)

-- where it ends the job's place is
pub enter_halt : (xs out : List Job) (j : Job) (n i : ℕ) → 0 < i → i ≤ n → n < length xs → goes_before j (get_or out (i - 1) blank_job) ≡ false
    → Entering xs j n out i → i ≡ from_back goes_before j (take n xs)
enter_halt xs out j n zero z h m b t = absurd (not-suc-le-zero z)
enter_halt xs out j n (suc k) z h m b t =
    let q : suc k - 1 ≡ k = omega arith in
    let g : goes_before j (get_or xs k blank_job) ≡ false = ap (λ (x : Job). goes_before j x) (sym (enter_same xs out n k t.0)) ∙ (rw q at b) in
    sym (back_here j xs k (omega arith) g) ∙ t.2

-- the order of the list is one
orders : Orders goes_before
orders j x y h n = lt-ltb j.due.0 y.due.0 (omega (arith, ltb-true j.due.0 x.due.0 h, ltb-false y.due.0 x.due.0 n))

-- the job is put at its place, which in a list that is in order is the one from the front
pub enter_end : (xs out : List Job) (j : Job) (n i : ℕ) → i < length out → i ≤ n → Sorted (take n xs) → Entering xs j n out i
    → i ≡ from_back goes_before j (take n xs) → set out i j ≡ enter_at n j xs
unfolding enter_at insert_due
enter_end xs out j n i h m s t e =
    let ys = take n xs in
    let r = drop (suc n) xs in
    set_split out i j h
    ∙ (λ w. t.0 w ++ j ∷ t.1 w)
    ∙ ap (λ (l : List Job). l ++ j ∷ (drop i ys ++ r)) (sym (take-take i n xs m))
    ∙ sym (append_assoc (take i ys) (j ∷ drop i ys) r)
    ∙ ap (λ k. (take k ys ++ j ∷ drop k ys) ++ r) (e ∙ same_place goes_before orders j ys s)
    ∙ ap (λ (l : List Job). l ++ r) (sym (insert_at goes_before j ys))

-- ---- the first job leaves: turns of `slide`

pub slide_step : (stop : Job → Bool) (out : List Job) (j : Job) (n i k : ℕ) → i + 1 ≡ k → k < n → n ≤ length out → stop (get_or out k blank_job) ≡ false
    → slide_at stop n j k (set out i (get_or out k blank_job)) ≡ slide_at stop n j i out
unfolding slide_at slide
slide_step stop out j n i k p h m e =
    let q : k ≡ suc i = omega arith in
    let f : n - suc i ≡ suc (n - suc (suc i)) = omega arith in
    let l : i < length out = omega arith in
    let g : suc i < length out = omega arith in
    let w : stop (get_or out (suc i) blank_job) ≡ false = rw q at e in
    rw (q, add-one, add-one, f, take-suc-set out i (get_or out (suc i) blank_job) l, drop-set-lt (suc i) out i (get_or out (suc i) blank_job) (omega arith), drop-cons out i blank_job l, drop-cons out (suc i) blank_job g, w)
    (append_snoc (take i out) (get_or out (suc i) blank_job) _)

-- at the last place, and at one that stops it
pub slide_end : (stop : Job → Bool) (out : List Job) (j : Job) (n i : ℕ) → i < length out → n ≤ i + 1 → set out i j ≡ slide_at stop n j i out
unfolding slide_at slide
slide_end stop out j n i h m =
    let f : n - (i + 1) ≡ 0 = omega arith in
    rw (f, drop-cons out i blank_job h) (set_split out i j h)

pub slide_stop : (stop : Job → Bool) (out : List Job) (j : Job) (n i k : ℕ) → i + 1 ≡ k → k < n → n ≤ length out → stop (get_or out k blank_job) ≡ true → set out i j ≡ slide_at stop n j i out
unfolding slide_at slide
slide_stop stop out j n i k p h m e =
    let q : k ≡ suc i = omega arith in
    let f : n - suc i ≡ suc (n - suc (suc i)) = omega arith in
    let l : i < length out = omega arith in
    let g : suc i < length out = omega arith in
    let w : stop (get_or out (suc i) blank_job) ≡ true = rw q at e in
    set_split out i j l ∙ rw (add-one, f, drop-cons out i blank_job l, drop-cons out (suc i) blank_job g, w) refl
