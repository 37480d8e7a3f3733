-- The plain scheduler's jobs, put in order: the first of them runs, and the others stay. Assumes nothing.
use Prim.Native.Nat.{ℕ, suc}
use mathlib.Core.Path.{◌≡◌, refl, ap, sym, ◌∙◌}
use mathlib.Core.Bool.{Bool, true, false, cond}
use mathlib.Core.List.{List, [], ◌∷◌}
use mathlib.Core.Option.{Option, some, none}
use lib.ListN.{length}
use Rattle.std.specs.Prelude.{None}
use Rattle.rules.specs.Answers.{Choice, runs_as}
use Rattle.rules.specs.Words.{count_by, insert_by}
use Rattle.rules.specs.Table.{Table}
use Rattle.rules.specs.Jobs.{Pending, before}
use Rattle.rules.specs.Plain.{earliest, rest, plain_choice, plain_others, plain_runs}
use Rattle.rules.proofs.Lists.{rest_of, length_insert, count_insert}

abbrev pub sorted : Table → List Pending → List Pending
sorted T [] = []
sorted T (j ∷ p) = insert_by (before T) j (sorted T p)

-- what runs is in front, whatever the order is
pub sorted_pick : (T : Table) (j : Pending) (p : List Pending) → sorted T (j ∷ p) ≡ earliest T j p ∷ sorted T (rest T j p)
sorted_pick T j [] = refl
sorted_pick T j (k ∷ p) = ap (insert_by (before T) j) (sorted_pick T k p) ∙ go (before T j (earliest T k p)) (sorted_pick T k p)
  where
    go : (t : Bool) → sorted T (k ∷ p) ≡ earliest T k p ∷ sorted T (rest T k p)
        → cond t (j ∷ earliest T k p ∷ sorted T (rest T k p)) (earliest T k p ∷ insert_by (before T) j (sorted T (rest T k p)))
        ≡ cond t j (earliest T k p) ∷ sorted T (cond t (k ∷ p) (j ∷ rest T k p))
    go true e = ap (λ z. j ∷ z) (sym e)
    go false e = refl

-- what runs of a list in order, and its task
abbrev pub runs_of : List Pending → Choice
runs_of [] = None
runs_of (j ∷ p) = runs_as j.task j.due

abbrev pub task_of : List Pending → Option ℕ
task_of [] = none
task_of (j ∷ p) = some j.task

pub choice_sorted : (T : Table) (p : List Pending) → plain_choice T p ≡ runs_of (sorted T p)
choice_sorted T [] = refl
choice_sorted T (j ∷ p) = ap runs_of (sym (sorted_pick T j p))

pub others_sorted : (T : Table) (p : List Pending) → sorted T (plain_others T p) ≡ rest_of (sorted T p)
others_sorted T [] = refl
others_sorted T (j ∷ p) = ap rest_of (sym (sorted_pick T j p))

pub runs_sorted : (T : Table) (p : List Pending) → plain_runs T p ≡ task_of (sorted T p)
runs_sorted T [] = refl
runs_sorted T (j ∷ p) = ap task_of (sym (sorted_pick T j p))

-- order changes no count
pub count_sorted : (T : Table) (f : Pending → Bool) (p : List Pending) → count_by f (sorted T p) ≡ count_by f p
count_sorted T f [] = refl
count_sorted T f (j ∷ p) = count_insert f (before T) j (sorted T p) ∙ ap (λ z. cond (f j) (suc z) z) (count_sorted T f p)

pub length_sorted : (T : Table) (p : List Pending) → length (sorted T p) ≡ length p
length_sorted T [] = refl
length_sorted T (j ∷ p) = length_insert (before T) j (sorted T p) ∙ ap suc (length_sorted T p)
