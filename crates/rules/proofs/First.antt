-- On a table that keeps the rule, the first job of the list is the one of the highest priority: it runs. Assumes nothing.
use Prim.Native.Nat.{ℕ}
use mathlib.Core.Path.{◌≡◌, refl, ap, ◌∙◌}
use mathlib.Core.Bool.{true, cond, ◌&&◌}
use mathlib.Core.List.{List, [], ◌∷◌, ◌++◌}
use mathlib.Core.Option.{Option, some, none}
use native.Mathlib.Omega.{arith}
use borrow.Author.Tests.{lt-ltb, eq-eqb}
use Rattle.rules.specs.declared.Tick.{Tick}
use Rattle.rules.specs.declared.Phase.{Phase}
use Rattle.rules.specs.declared.Phase.TheVariants.{Delayed, Released}
use Rattle.rules.specs.Words.{All, Pairs}
use Rattle.rules.specs.Table.{Table, Keeps, priority_of}
use Rattle.rules.specs.Jobs.{Job, bare}
use Rattle.rules.specs.Kernel.{dispatched, higher}
use Rattle.rules.specs.Layer.{is_of, is_released, running_in, without, fresh}
use Rattle.rules.specs.Run.{run}
use Rattle.rules.specs.Statement.{first_task, pushed, released_of, ApartPriorities}
use Rattle.rules.proofs.Lists.{rest_of, all_map}
use Rattle.rules.proofs.Order.{Higher, ranks}
use Rattle.rules.proofs.Invariant.{Ordered, GoodOf, behind, not_live}
use Rattle.rules.proofs.Step.{fresh_good}

abbrev pub first_of {ℓ} : {A : Type ℓ} → List A → Option A
first_of [] = none
first_of (a ∷ l) = some a

-- what was released last runs, if all others are lower
dispatched_last : (T : Table) (n : ℕ) (q : List ℕ) → All (Higher T n) q → dispatched (priority_of T) (q ++ (n ∷ [])) ≡ some n
dispatched_last T n [] h = refl
dispatched_last T n (m ∷ q) h =
    ap (λ z. some (higher (priority_of T) m z)) (dispatched_last T n q h.1) ∙ ap (λ z. some (cond z n m)) (lt-ltb (priority_of T m) (priority_of T n) h.0)

dispatched_first : (T : Table) (s : Phase) (n : ℕ) (q : List ℕ) → s ≡ Released → All (Higher T n) q → dispatched (priority_of T) (pushed s n q) ≡ some n
dispatched_first T Delayed n q e h = not_live e
dispatched_first T Released n q e h = dispatched_last T n q h

pub released_is_of : (j : Job) → j.phase ≡ Released → is_of j.task j ≡ true
released_is_of j f = ap (λ z. z && is_released j.phase) (eq-eqb j.task j.task refl) ∙ ap is_released f

-- r is the task that the kernel picks by priority
module _ (T : Table) (keeps : Keeps T) (now : Tick) where
  pub top_first : (l : List Job) (q : List ℕ) → GoodOf T (Higher T) now l q → (r : Option ℕ) → r ≡ dispatched (priority_of T) q → r ≡ first_task l
  top_first [] q g r top = top ∙ ap (dispatched (priority_of T)) g.lined.queue
  top_first (j ∷ l) q g r top =
      top ∙ ap (dispatched (priority_of T)) g.lined.queue
      ∙ dispatched_first T j.phase j.task (released_of l) g.lined.first (behind T (Higher T) (ranks T keeps) (bare j) l g.lined.ordered.0)

  pub leaves : (l : List Job) (q : List ℕ) → GoodOf T (Higher T) now l q → (r : Option ℕ) → r ≡ dispatched (priority_of T) q → without r l ≡ rest_of l
  leaves [] q g r top = ap (λ z. without z []) (top_first [] q g r top)
  leaves (j ∷ l) q g r top =
      ap (λ z. without z (j ∷ l)) (top_first (j ∷ l) q g r top) ∙ ap (λ z. cond z l (j ∷ without (some j.task) l)) (released_is_of j g.lined.first)

  pub runs_first : (l : List Job) (q : List ℕ) → GoodOf T (Higher T) now l q → (r : Option ℕ) → r ≡ dispatched (priority_of T) q → running_in r l ≡ first_of l
  runs_first [] q g r top = ap (λ z. running_in z []) (top_first [] q g r top)
  runs_first (j ∷ l) q g r top =
      ap (λ z. running_in z (j ∷ l)) (top_first (j ∷ l) q g r top) ∙ ap (λ z. cond z (some j) (running_in (some j.task) l)) (released_is_of j g.lined.first)

-- two released jobs never share a priority
pairs_apart : (T : Table) (l : List Job) → Ordered T (Higher T) l
    → Pairs (λ (j k : Job). j.phase ≡ Released → k.phase ≡ Released → priority_of T j.task ≡ priority_of T k.task → ⊥) l
pairs_apart T [] o = tt
pairs_apart T (j ∷ l) o = (all_map (λ k a r s e. let f = a.over s in omega arith) l o.0, pairs_apart T l o.1)

pub apart_priorities : ApartPriorities
apart_priorities T keeps calls = pairs_apart T (run T fresh calls).jobs (fresh_good T (Higher T) (ranks T keeps) calls).lined.ordered
