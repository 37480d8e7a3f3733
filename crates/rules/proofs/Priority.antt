-- The kernel runs the highest priority, and within it the first released; a preempted job is the oldest of its level. Assumes nothing.
use Prim.Native.Nat.{ℕ, ◌≤◌}
use mathlib.Core.Path.{◌≡◌, refl, ap, sym, ◌∙◌, subst, subst⁻¹}
use mathlib.Core.Logic.{◌⊎◌, inl, inr}
use mathlib.Core.Bool.{Bool, true, false, cond}
use mathlib.Core.List.{List, [], ◌∷◌, ◌++◌, append_assoc}
use mathlib.Core.Option.{Option, some, none}
use lib.Dec.{ltb, eqb}
use native.Mathlib.Omega.{arith}
use borrow.Author.Tests.{ltb-true, ltb-false, eq-eqb, ne_eqb}
use Rattle.rules.specs.declared.KernelCall.{KernelCall}
use Rattle.rules.specs.declared.KernelCall.TheVariants.{NoCall, ActivateTask, ChainTask, TerminateTask}
use Rattle.rules.specs.Words.{All}
use Rattle.rules.specs.Kernel.{dispatched, higher, remove, dequeued, kernel}
use Rattle.rules.specs.Statement.{Highest, KernelIsPriority, Oldest, PreemptedOldest, ChainIsBoth}
use Rattle.rules.proofs.Lists.{all_map, all_append}

-- one released before those of q, of which h runs
module _ (level : ℕ → ℕ) (n : ℕ) (q : List ℕ) (h : Highest level q) where
  -- it leaves the running to a higher one
  goes_on : ltb (level n) (level h.task) ≡ true → Highest level (n ∷ q)
  goes_on e =
      record {
        sooner = n ∷ h.sooner;
        task = h.task;
        later = h.later;
        among = ap (λ z. n ∷ z) h.among;
        runs = runs;
        others = ap (λ z. dequeued z (n ∷ q)) runs ∙ ap (λ z. cond z q (n ∷ remove h.task q)) (ne_eqb h.task n other) ∙ ap (λ z. n ∷ z) (sym (ap (λ z. dequeued z q) h.runs) ∙ h.others);
        first = (ltb-true (level n) (level h.task) e, h.first);
        highest = h.highest;
      }
    where
      runs : dispatched level (n ∷ q) ≡ some h.task
      runs = ap (λ z. some (higher level n z)) h.runs ∙ ap (λ z. some (cond z h.task n)) e

      other : h.task ≡ n → ⊥
      other d = let l = ltb-true (level n) (level h.task) e in let f : level h.task ≡ level n = ap level d in omega arith

  -- and runs itself where that one is not higher
  takes_over_lem : ltb (level n) (level h.task) ≡ false → Highest level (n ∷ q)
  takes_over_lem e =
      let l = ltb-false (level n) (level h.task) e in
      record {
        sooner = [];
        task = n;
        later = q;
        among = refl;
        runs = runs;
        others = ap (λ z. dequeued z (n ∷ q)) runs ∙ ap (λ z. cond z q (n ∷ remove n q)) (eq-eqb n n refl);
        first = tt;
        highest =
            subst⁻¹ (All (λ k. level k ≤ level n)) h.among
            (all_append (λ k. level k ≤ level n) h.sooner (h.task ∷ h.later) (all_map (λ k a. omega arith) h.sooner h.first)
            (l, all_map (λ k a. omega arith) h.later h.highest));
      }
    where
      runs : dispatched level (n ∷ q) ≡ some n
      runs = ap (λ z. some (higher level n z)) h.runs ∙ ap (λ z. some (cond z h.task n)) e

highest_of : (level : ℕ → ℕ) (n : ℕ) (q : List ℕ) → Highest level (n ∷ q)
highest_of level n [] = record { sooner = []; task = n; later = []; among = refl; runs = refl; others = ap (λ z. cond z [] (n ∷ [])) (eq-eqb n n refl); first = tt; highest = tt }
highest_of level n (m ∷ q) = go (highest_of level m q)
  where
    go : Highest level (m ∷ q) → Highest level (n ∷ m ∷ q)
    go h = by (ltb (level n) (level h.task)) refl
      where
        by : (t : Bool) → ltb (level n) (level h.task) ≡ t → Highest level (n ∷ m ∷ q)
        by true e = goes_on level n (m ∷ q) h e
        by false e = takes_over_lem level n (m ∷ q) h e

pub kernel_is_priority : KernelIsPriority
kernel_is_priority level [] = inl (refl, refl)
kernel_is_priority level (n ∷ q) = inr (highest_of level n q)

-- ---- what ran is the oldest of its level

none_some : {n : ℕ} → ◌≡◌ {A = Option ℕ} none (some n) → ⊥
none_some e = let z : ◌≡◌ {A = ℕ} 0 1 = cc in omega arith

of_some : {m n : ℕ} → ◌≡◌ {A = Option ℕ} (some m) (some n) → m ≡ n
of_some e = cc

module _ (level : ℕ → ℕ) (n : ℕ) where
  runs_oldest : (q : List ℕ) → dispatched level q ≡ some n → Oldest level n q
  runs_oldest q e = go (kernel_is_priority level q)
    where
      go : ((q ≡ []) × (dispatched level q ≡ none)) ⊎ (Highest level q) → Oldest level n q
      go (inl z) = absurd (none_some (sym z.1 ∙ e))
      go (inr h) =
          let same : h.task ≡ n = of_some (sym h.runs ∙ e) in
          subst (λ m. Oldest level m q) same
          (record { sooner = h.sooner; later = h.later; among = h.among; oldest = all_map (λ k a d. omega arith) h.sooner h.first })

  -- others come behind it
  oldest_behind : (q l : List ℕ) → Oldest level n q → Oldest level n (q ++ l)
  oldest_behind q l h =
      record { sooner = h.sooner; later = h.later ++ l; among = ap (λ z. z ++ l) h.among ∙ append_assoc h.sooner (n ∷ h.later) l; oldest = h.oldest }

  -- another leaves
  oldest_without : (m : ℕ) → (m ≡ n → ⊥) → (s l : List ℕ) → All (λ k. level k ≡ level n → ⊥) s → Oldest level n (remove m (s ++ (n ∷ l)))
  oldest_without m d [] l a =
      record { sooner = []; later = remove m l; among = ap (λ z. cond z l (n ∷ remove m l)) (ne_eqb m n d); oldest = tt }
  oldest_without m d (k ∷ s) l a = go (eqb m k) (oldest_without m d s l a.1)
    where
      go : (t : Bool) → Oldest level n (remove m (s ++ (n ∷ l))) → Oldest level n (cond t (s ++ (n ∷ l)) (k ∷ remove m (s ++ (n ∷ l))))
      go true h = record { sooner = s; later = l; among = refl; oldest = a.1 }
      go false h = record { sooner = k ∷ h.sooner; later = h.later; among = ap (λ z. k ∷ z) h.among; oldest = (a.0, h.oldest) }

  oldest_dequeued : (q : List ℕ) → Oldest level n q → (r : Option ℕ) → (r ≡ some n → ⊥) → Oldest level n (dequeued r q)
  oldest_dequeued q h none d = h
  oldest_dequeued q h (some m) d =
      subst⁻¹ (λ z. Oldest level n (remove m z)) h.among (oldest_without m (λ e. d (ap some e)) h.sooner h.later h.oldest)

  stays_oldest : (q : List ℕ) → Oldest level n q → (r : Option ℕ) (k : KernelCall) → (r ≡ some n → ⊥) → Oldest level n (kernel r k q)
  stays_oldest q h r NoCall d = h
  stays_oldest q h r (ActivateTask m) d = oldest_behind q (m ∷ []) h
  stays_oldest q h r (ChainTask m) d = oldest_behind (dequeued r q) (m ∷ []) (oldest_dequeued q h r d)
  stays_oldest q h r TerminateTask d = oldest_dequeued q h r d

pub preempted_oldest : PreemptedOldest
preempted_oldest level n q = record { runs = runs_oldest level n q; released = λ h r m. oldest_behind level n q (m ∷ []) h; waits = stays_oldest level n q }

pub chain_is_both : ChainIsBoth
chain_is_both r n q = refl
