-- A list laid out in an array: what `view` and `pack` make of each other. Assumes nothing.
use Prim.Native.Nat.{ℕ, ◌+◌, ◌-◌, ◌≤◌, ◌<◌}
use mathlib.Core.Path.{◌≡◌, refl, sym, ap, ◌∙◌}
use mathlib.Core.List.{List, ◌∷◌}
use native.Mathlib.Numerals.{add-one}
use native.Mathlib.Omega.{arith}
use lib.ListN.{length, drop, get_or, length-take, length-append, length-replicate, replicate}
use lib.Seq.{drop-cons, get_or-take, length-take-le, take-append_seam}
use Rattle.rules.specs.Words.{places}
use Rattle.rules.specs.declared.Job.{Job}
use Rattle.jobs.specs.declared.JobList.{JobList}
use Rattle.jobs.specs.Listed.{blank_job, view, pack, Shaped}

-- a list that is laid out has all the places
pack_length : (xs : List Job) → length xs ≤ places → length (pack xs).jobs ≡ places
unfolding pack
pack_length xs h = simp (length-append, length-replicate) (omega arith)

pub shaped_length : (l : JobList) → Shaped l → length l.jobs ≡ places
shaped_length l s =
    let k : length (view l) ≤ places = rw (length-take l.count l.jobs) (omega (arith, s.small)) in
    ap (λ (x : JobList). length x.jobs) s.blanks ∙ pack_length (view l) k

-- as many are pending as the count says
pub view_length : (l : JobList) → Shaped l → length (view l) ≡ l.count
view_length l s = length-take-le l.count l.jobs (omega (arith, shaped_length l s, s.small))

-- the jobs of a list that is laid out are those, and it is Shaped
pub view_pack : (xs : List Job) → view (pack xs) ≡ xs
unfolding pack
view_pack xs = take-append_seam xs (replicate (places - length xs) blank_job)

pub count_pack : (xs : List Job) → (pack xs).count ≡ length xs
unfolding pack
count_pack xs = refl

pub pack_shaped : (xs : List Job) → length xs ≤ places → Shaped (pack xs)
unfolding pack
pack_shaped xs h = record { small = h; blanks = sym (ap pack (view_pack xs)) }

-- what holds of a list that is laid out holds of any Shaped one
pub through {ℓ} : {A : Type ℓ} (f : JobList → A) (g : List Job → A) → ((xs : List Job) → length xs ≤ places → f (pack xs) ≡ g xs) → (l : JobList) → Shaped l → f l ≡ g (view l)
through f g e l s = ap f s.blanks ∙ e (view l) (omega (arith, view_length l s, s.small))

-- what is pending from i on begins with the job at i
pub view_step : (l : JobList) (i : ℕ) → Shaped l → i < l.count → drop i (view l) ≡ get_or l.jobs i blank_job ∷ drop (i + 1) (view l)
view_step l i s h =
    let m : l.count ≤ length l.jobs = omega (arith, shaped_length l s, s.small) in
    let k : i < length (view l) = rw (length-take-le l.count l.jobs m) h in
    drop-cons (view l) i blank_job k ∙ rw (add-one, get_or-take l.count l.jobs i blank_job h)
