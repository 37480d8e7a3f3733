-- Q-1: on a board that was reached exactly one reason fits, and the answer is it; 3 is given exactly for a task without a line. Assumes nothing.
use Prim.Native.Nat.{ℕ, ◌<◌, ◌≤◌}
use mathlib.Core.Path.{◌≡◌, refl, ap, sym, ◌∙◌, subst, subst⁻¹}
use mathlib.Core.Bool.{Bool, true, false, cond}
use mathlib.Core.List.{List, [], ◌∷◌, ◌++◌}
use mathlib.Core.Option.{Option, some, none}
use lib.Dec.{leb, eqb}
use native.Mathlib.Omega.{arith}
use borrow.Author.Tests.{ltb-true, ltb-false, lt-ltb, le-ltb, leb-true, leb-false, le-leb, lt-leb, eqb-true, eqb-false, eq-eqb, ne_eqb}
use Rattle.rules.specs.declared.Reason.{Reason}
use Rattle.rules.specs.declared.Reason.TheVariants.{NonePending, ItRuns, Earlier, ThereFirst}
use Rattle.std.specs.Prelude.{Ok, Err}
use Rattle.rules.specs.declared.CallRefusal.TheVariants.{NoTask}
use Rattle.rules.specs.Answers.{call_number}
use Rattle.rules.specs.Words.{◌if◌else◌, All}
use Rattle.rules.specs.Table.{Table, size}
use Rattle.rules.specs.Jobs.{Job, bare, key_at}
use Rattle.rules.specs.Layer.{Board, fresh, running, running_job}
use Rattle.rules.specs.Run.{run}
use Rattle.rules.specs.Why.{NotOf, FirstOf, Fits, none_pending, it_runs, earlier, there_first, asked, is_earlier, reason, why, WhyTrue, WhyRefuses, WhyRefused}
use Rattle.rules.proofs.Order.{Higher, ranks, before_false, no_greater}
use Rattle.rules.proofs.Invariant.{Ahead, Ordered}
use Rattle.rules.proofs.Step.{fresh_good}
use Rattle.rules.proofs.First.{first_of, runs_first}

-- ---- the first job of a task

none_asked : (n : ℕ) (l : List Job) → All (NotOf n) l → asked n l ≡ none
none_asked n [] h = refl
none_asked n (j ∷ l) h = ap (λ z. cond z (some j) (asked n l)) (ne_eqb n j.task (λ e. h.0 (sym e))) ∙ none_asked n l h.1

first_asked : (n : ℕ) (l : List Job) (f : FirstOf n l) → asked n l ≡ some f.job
first_asked n l f = ap (asked n) f.among ∙ go f.front f.first
  where
    go : (front : List Job) → All (NotOf n) front → asked n (front ++ (f.job ∷ f.back)) ≡ some f.job
    go [] h = ap (λ z. cond z (some f.job) (asked n f.back)) (eq-eqb n f.job.task (sym f.of_task))
    go (k ∷ front) h =
        ap (λ z. cond z (some k) (asked n (front ++ (f.job ∷ f.back)))) (ne_eqb n k.task (λ e. h.0 (sym e))) ∙ go front h.1

asked_none : (n : ℕ) (l : List Job) → asked n l ≡ none → All (NotOf n) l
asked_none n [] e = tt
asked_none n (j ∷ l) e = go (eqb n j.task) refl e (asked_none n l)
  where
    go : (t : Bool) → eqb n j.task ≡ t → cond t (some j) (asked n l) ≡ none → (asked n l ≡ none → All (NotOf n) l) → All (NotOf n) (j ∷ l)
    go true q e ih = let z : ◌≡◌ {A = ℕ} 0 1 = cc in absurd (omega arith)
    go false q e ih = ((λ z. eqb-false n j.task q (sym z)), ih e)

-- with what stands in front of it
record Stands (n : ℕ) (l : List Job) (a : Job) : Type 0 where
  place : FirstOf n l
  is : place.job ≡ a

asked_first : (n : ℕ) (l : List Job) (a : Job) → asked n l ≡ some a → Stands n l a
asked_first n [] a e = let z : ◌≡◌ {A = ℕ} 0 1 = cc in absurd (omega arith)
asked_first n (j ∷ l) a e = go (eqb n j.task) refl e (asked_first n l a)
  where
    go : (t : Bool) → eqb n j.task ≡ t → cond t (some j) (asked n l) ≡ some a → (asked n l ≡ some a → Stands n l a) → Stands n (j ∷ l) a
    go true q e ih =
        let same : j ≡ a = cc in
        record { place = record { front = []; job = j; back = l; among = refl; of_task = sym (eqb-true n j.task q); first = tt }; is = same }
    go false q e ih =
        let s = ih e in
        record {
          place = record {
            front = j ∷ s.place.front;
            job = s.place.job;
            back = s.place.back;
            among = ap (λ z. j ∷ z) s.place.among;
            of_task = s.place.of_task;
            first = ((λ z. eqb-false n j.task q (sym z)), s.place.first);
          };
          is = s.is;
        }

-- ---- the answer, case by case

module _ (T : Table) (n : ℕ) (a r : Job) where
  runs_is : n ≡ r.task → reason T n (some a) (some r) ≡ ItRuns
  unfolding reason ◌if◌else◌
  runs_is e = rw (eq-eqb n r.task e) refl

  earlier_is : (n ≡ r.task → ⊥) → key_at T r.due < key_at T a.due → reason T n (some a) (some r) ≡ Earlier r.task r.due
  unfolding reason ◌if◌else◌
  earlier_is d h = rw (ne_eqb n r.task d) (rw (lt-ltb (key_at T r.due) (key_at T a.due) h) refl)

  there_is : (n ≡ r.task → ⊥) → key_at T a.due ≤ key_at T r.due → reason T n (some a) (some r) ≡ ThereFirst r.task r.due
  unfolding reason ◌if◌else◌
  there_is d h = rw (ne_eqb n r.task d) (rw (le-ltb (key_at T r.due) (key_at T a.due) h) refl)

none_is : (T : Table) (n : ℕ) (r : Option Job) → reason T n none r ≡ NonePending
unfolding reason
none_is T n r = refl

-- ---- the first job of the list runs

-- no job behind it is due earlier
in_front_lem : (T : Table) (j : Job) (front : List Job) (k : Job) (back : List Job) → All (Ahead T (Higher T) (bare j)) (front ++ (k ∷ back)) → key_at T j.due ≤ key_at T k.due
in_front_lem T j [] k back h = no_greater T (bare j) (bare k) (before_false T (bare k) (bare j) h.0.order)
in_front_lem T j (i ∷ front) k back h = in_front_lem T j front k back h.1

module _ (T : Table) (b : Board) (n : ℕ) (o : Ordered T (Higher T) b.jobs) (runs : running_job T b ≡ first_of b.jobs) where
  abbrev given : Reason
  given = reason T n (asked n b.jobs) (running_job T b)

  -- the reason given fits
  gives : Fits T b n given
  gives = subst⁻¹ (λ z. Fits T b n (reason T n (asked n b.jobs) z)) runs (go b.jobs refl o)
    where
      go : (l : List Job) → b.jobs ≡ l → Ordered T (Higher T) l → Fits T b n (reason T n (asked n l) (first_of l))
      go [] e o = subst⁻¹ (Fits T b n) (none_is T n none) (none_pending (subst⁻¹ (All (NotOf n)) e tt))
      go (j ∷ l) e o = pick (eqb n j.task) refl
        where
          runs_j : running_job T b ≡ some j
          runs_j = runs ∙ ap first_of e

          waits : (a : Job) → (n ≡ j.task → ⊥) → asked n l ≡ some a → Fits T b n (reason T n (some a) (some j))
          waits a d q = test (is_earlier T j a) refl
            where
              s : Stands n l a
              s = asked_first n l a q

              f : FirstOf n b.jobs
              f = record {
                front = j ∷ s.place.front;
                job = s.place.job;
                back = s.place.back;
                among = e ∙ ap (λ z. j ∷ z) s.place.among;
                of_task = s.place.of_task;
                first = ((λ z. d (sym z)), s.place.first);
              }

              test : (t : Bool) → is_earlier T j a ≡ t → Fits T b n (reason T n (some a) (some j))
              test true h =
                  let k = ltb-true (key_at T j.due) (key_at T a.due) h in
                  subst⁻¹ (Fits T b n) (earlier_is T n a j d k) (earlier f j runs_j (subst⁻¹ (λ (z : Job). key_at T j.due < key_at T z.due) s.is k))
              test false h =
                  let k = ltb-false (key_at T j.due) (key_at T a.due) h in
                  let m : key_at T j.due ≤ key_at T a.due = subst (λ (z : Job). key_at T j.due ≤ key_at T z.due) s.is (no_earlier s.place) in
                  subst⁻¹ (Fits T b n) (there_is T n a j d (omega arith))
                  (there_first f j runs_j (subst⁻¹ (λ (z : Job). key_at T j.due ≡ key_at T z.due) s.is (omega arith)) (record { sooner = []; later = s.place.front; among = refl }))
                where
                  no_earlier : (p : FirstOf n l) → key_at T j.due ≤ key_at T p.job.due
                  no_earlier p = in_front_lem T j p.front p.job p.back (subst (All (Ahead T (Higher T) (bare j))) p.among o.0)

          rest : (a : Option Job) → (n ≡ j.task → ⊥) → asked n l ≡ a → Fits T b n (reason T n a (some j))
          rest none d q = subst⁻¹ (Fits T b n) (none_is T n (some j)) (none_pending (subst⁻¹ (All (NotOf n)) e ((λ z. d (sym z)), asked_none n l q)))
          rest (some a) d q = waits a d q

          pick : (t : Bool) → eqb n j.task ≡ t → Fits T b n (reason T n (cond t (some j) (asked n l)) (some j))
          pick true q =
              subst⁻¹ (Fits T b n) (runs_is T n j j (eqb-true n j.task q))
              (it_runs (record { front = []; job = j; back = l; among = e; of_task = sym (eqb-true n j.task q); first = tt }) runs_j)
          pick false q = rest (asked n l) (eqb-false n j.task q) refl

  -- and no other does: what fits is the reason given
  fits_given : (x : Reason) → Fits T b n x → x ≡ given
  fits_given x (none_pending h) = sym (ap (λ z. reason T n z (running_job T b)) (none_asked n b.jobs h) ∙ none_is T n (running_job T b))
  fits_given x (it_runs a e) =
      sym (ap (λ z. reason T n z (running_job T b)) (first_asked n b.jobs a) ∙ ap (reason T n (some a.job)) e ∙ runs_is T n a.job a.job (sym a.of_task))
  fits_given x (earlier a r e h) =
      sym (ap (λ z. reason T n z (running_job T b)) (first_asked n b.jobs a) ∙ ap (reason T n (some a.job)) e ∙ earlier_is T n a.job r (λ d. apart d) h)
    where
      -- the running job is the first of the list, so the first of its own task
      apart : n ≡ r.task → ⊥
      apart d = go b.jobs refl (sym runs ∙ e)
        where
          go : (l : List Job) → b.jobs ≡ l → first_of l ≡ some r → ⊥
          go [] q z = let y : ◌≡◌ {A = ℕ} 0 1 = cc in omega arith
          go (j ∷ l) q z =
              let s : j ≡ r = cc in
              let t : eqb n j.task ≡ true = eq-eqb n j.task (d ∙ ap (λ (i : Job). i.task) (sym s)) in
              let f : some j ≡ some a.job = sym (ap (λ y. cond y (some j) (asked n l)) t) ∙ (ap (asked n) (sym q) ∙ first_asked n b.jobs a) in
              let g : j ≡ a.job = cc in
              let k : key_at T r.due ≡ key_at T a.job.due = ap (λ (i : Job). key_at T i.due) (sym s ∙ g) in
              omega arith
  fits_given x (there_first a r e h m) =
      sym (ap (λ z. reason T n z (running_job T b)) (first_asked n b.jobs a) ∙ ap (reason T n (some a.job)) e
      ∙ there_is T n a.job r (λ d. in_all m.sooner (subst (All (NotOf n)) m.among a.first) (sym d)) (omega arith))
    where
      in_all : (sooner : List Job) → All (NotOf n) (sooner ++ (r ∷ m.later)) → NotOf n r
      in_all [] z = z.0
      in_all (k ∷ sooner) z = in_all sooner z.1

-- ---- the answer

answers_3 : (T : Table) (b : Board) (n : ℕ) → size T ≤ n → why T b n ≡ Err NoTask
unfolding why ◌if◌else◌
answers_3 T b n h = rw (le-leb (size T) n h) refl

pub answers_reason : (T : Table) (b : Board) (n : ℕ) → n < size T → why T b n ≡ Ok (reason T n (asked n b.jobs) (running_job T b))
unfolding why ◌if◌else◌
answers_reason T b n h = rw (lt-leb (size T) n h) refl

pub why_true : WhyTrue
why_true T keeps calls n line =
    let b = run T fresh calls in
    let g = fresh_good T (Higher T) (ranks T keeps) calls in
    let runs = runs_first T keeps b.last b.jobs b.ready g (running T b) refl in
    record {
      reason = reason T n (asked n b.jobs) (running_job T b);
      fits = gives T b n g.lined.ordered runs;
      only = fits_given T b n g.lined.ordered runs;
      answer = answers_reason T b n line;
    }

pub why_refused : WhyRefused
why_refused T b n = go (leb (size T) n) refl
  where
    go : (t : Bool) → leb (size T) n ≡ t → WhyRefuses T b n
    go true e =
        let h = leb-true (size T) n e in
        record { three = ((λ z. h), answers_3 T b n); no_other = λ k z. let q : Err NoTask ≡ Err k = sym (answers_3 T b n h) ∙ z in let y : NoTask ≡ k = cc in sym (ap call_number y) }
    go false e =
        let h = answers_reason T b n (leb-false (size T) n e) in
        record {
          three = ((λ z. let q : Ok (reason T n (asked n b.jobs) (running_job T b)) ≡ Err NoTask = sym h ∙ z in let y : ◌≡◌ {A = ℕ} 0 1 = cc in absurd (omega arith)), answers_3 T b n);
          no_other = λ k z. let q : Ok (reason T n (asked n b.jobs) (running_job T b)) ≡ Err k = sym h ∙ z in let y : ◌≡◌ {A = ℕ} 0 1 = cc in absurd (omega arith);
        }
