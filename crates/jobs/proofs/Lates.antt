-- The scan for newly late jobs stops at the first job that is not late, and misses none. Assumes nothing.
use Prim.Native.Nat.{ℕ, suc, ◌+◌, ◌-◌, ◌≤◌, ◌<◌}
use mathlib.Core.Path.{◌≡◌, refl, sym, ap, ◌∙◌}
use mathlib.Core.Bool.{Bool, true, false, cond, not, ◌&&◌}
use mathlib.Core.List.{List, [], ◌∷◌, ◌++◌, map, append-nil}
use native.Mathlib.Omega.{arith}
use borrow.Author.Tests.{ltb-false}
use lib.ListN.{length, take, set, get_or, replicate, length-append}
use lib.Seq.{append_snoc, set-append_seam}
use Rattle.rules.specs.declared.Job.{Job}
use Rattle.rules.specs.declared.Tick.{Tick}
use Rattle.rules.specs.declared.Late.{Late}
use Rattle.rules.specs.Words.{only, All, places}
use Rattle.rules.specs.Late.{is_past}
use Rattle.rules.proofs.Past.{past_later}
use Rattle.jobs.specs.declared.JobList.{JobList}
use Rattle.jobs.specs.Listed.{blank_job, view, Shaped, Sorted, goes_before, is_newly_late, late_in, newly_late_in}
use Rattle.jobs.specs.Inside.{late_step}
use Rattle.jobs.proofs.Laid.{view_length, view_step}

-- what `newly_late` has still to do
unfoldable pub late_scan : Tick → Tick → Late → List Job → Late
late_scan last at l [] = l
late_scan last at l (x ∷ xs) = cond (is_past at x.due) (late_scan last at (late_step last l x) xs) l

-- its turns
pub scan_none : (last at : Tick) (l : Late) → late_scan last at l [] ≡ l
unfolding late_scan
scan_none last at l = refl

pub scan_stop : (last at : Tick) (l : Late) (x : Job) (xs : List Job) → is_past at x.due ≡ false → late_scan last at l (x ∷ xs) ≡ l
unfolding late_scan
scan_stop last at l x xs e = rw e

pub scan_next : (last at : Tick) (l : Late) (x : Job) (xs : List Job) → is_past at x.due ≡ true → late_scan last at l (x ∷ xs) ≡ late_scan last at (late_step last l x) xs
unfolding late_scan
scan_next last at l x xs e = rw e

-- the cases of `late_step`
pub step_before : (last : Tick) (l : Late) (x : Job) → is_past last x.due ≡ true → late_step last l x ≡ l
unfolding late_step
step_before last l x e = rw e

pub step_now : (last : Tick) (l : Late) (x : Job) → is_past last x.due ≡ false → late_step last l x ≡ record { count = l.count + 1; tasks = set l.tasks l.count x.task }
unfolding late_step
step_now last l x e = rw e

-- at most one more
pub step_count : (last : Tick) (l : Late) (x : Job) → (late_step last l x).count ≤ l.count + 1
unfolding late_step
step_count last l x = go (is_past last x.due)
  where
    go : (b : Bool) → (cond {A = Late} b l (record { count = l.count + 1; tasks = set l.tasks l.count x.task })).count ≤ l.count + 1
    go true = omega arith
    go false = omega arith

-- one task more
late_push : (ts : List ℕ) (t : ℕ) → length ts < places → ◌≡◌ {A = Late} (record { count = (late_in ts).count + 1; tasks = set (late_in ts).tasks (late_in ts).count t }) (late_in (ts ++ (t ∷ [])))
unfolding late_in
late_push ts t h =
    let e : places - length ts ≡ suc ((places - 1) - length ts) = omega arith in
    let n : length (ts ++ (t ∷ [])) ≡ length ts + 1 = length-append ts (t ∷ []) in
    let f : places - length (ts ++ (t ∷ [])) ≡ (places - 1) - length ts = omega arith in
    let p : set (ts ++ replicate (places - length ts) 0) (length ts) t ≡ (ts ++ (t ∷ [])) ++ replicate (places - length (ts ++ (t ∷ []))) 0 =
    rw (e, f) (set-append_seam ts 0 (replicate ((places - 1) - length ts) 0) t ∙ sym (append_snoc ts t (replicate ((places - 1) - length ts) 0))) in
    λ i. record { count = sym n i; tasks = p i }

-- no job that is due no earlier than one that is not late is late
none_behind : (last at : Tick) (x : Job) (xs : List Job) → is_past at x.due ≡ false → All (λ (y : Job). goes_before y x ≡ false) xs → only (is_newly_late last at) xs ≡ []
none_behind last at x [] e h = refl
none_behind last at x (y ∷ ys) e h =
    rw (past_later at x.due y.due (ltb-false y.due.0 x.due.0 h.0) e) (none_behind last at x ys e h.1)

abbrev tasks_in : List Job → List ℕ
tasks_in xs = map (λ (x : Job). x.task) xs

scan_all : (last at : Tick) (xs : List Job) (ts : List ℕ) → length ts + length xs ≤ places → Sorted xs → late_scan last at (late_in ts) xs ≡ late_in (ts ++ tasks_in (only (is_newly_late last at) xs))
unfolding late_scan
scan_all last at [] ts h s = ap late_in (sym (append-nil ts))
scan_all last at (x ∷ xs) ts h s = go (is_past at x.due) (is_past last x.due) refl refl (λ us k. scan_all last at xs us k s.1)
  where
    go : (p q : Bool) → is_past at x.due ≡ p → is_past last x.due ≡ q
        → ((us : List ℕ) → length us + length xs ≤ places → late_scan last at (late_in us) xs ≡ late_in (us ++ tasks_in (only (is_newly_late last at) xs)))
        → cond p (late_scan last at (late_step last (late_in ts) x) xs) (late_in ts) ≡ late_in (ts ++ tasks_in (cond (p && not q) (x ∷ only (is_newly_late last at) xs) (only (is_newly_late last at) xs)))
    go false q e f again = ap late_in (sym (append-nil ts) ∙ ap (λ (l : List Job). ts ++ tasks_in l) (sym (none_behind last at x xs e s.0)))
    go true true e f again =
        ap (λ (l : Late). late_scan last at l xs) (step_before last (late_in ts) x f) ∙ again ts (omega arith)
    go true false e f again =
        ap (λ (l : Late). late_scan last at l xs) (step_now last (late_in ts) x f ∙ late_push ts x.task (omega arith))
        ∙ again (ts ++ (x.task ∷ [])) (omega (arith, length-append ts (x.task ∷ [])))
        ∙ ap late_in (append_snoc ts x.task (tasks_in (only (is_newly_late last at) xs)))

-- what `newly_late` makes
pub scan_law : (last at : Tick) (none : Late) (l : JobList) → none ≡ late_in [] → Shaped l → Sorted (view l) → late_scan last at none (view l) ≡ newly_late_in last at (view l)
unfolding newly_late_in
scan_law last at none l e s o =
    ap (λ (z : Late). late_scan last at z (view l)) e ∙ scan_all last at (view l) [] (omega (arith, view_length l s, s.small)) o

pub none_count : (none : Late) → none ≡ late_in [] → none.count ≡ 0
unfolding late_in
none_count none e = ap (λ (l : Late). l.count) e

-- none is late in an empty list, nor where the first job is not
pub late_empty : (last at : Tick) (l : JobList) → l.count ≡ 0 → newly_late_in last at (view l) ≡ late_in []
unfolding newly_late_in
late_empty last at l e = ap (λ n. newly_late_in last at (take n l.jobs)) e

pub late_stop : (last at : Tick) (l : JobList) → Shaped l → Sorted (view l) → 0 < l.count → is_past at (get_or l.jobs 0 blank_job).due ≡ false → newly_late_in last at (view l) ≡ late_in []
late_stop last at l s o h e =
    sym (scan_law last at (late_in []) l refl s o) ∙ ap (late_scan last at (late_in [])) (view_step l 0 s h) ∙ scan_stop last at (late_in []) _ _ e
