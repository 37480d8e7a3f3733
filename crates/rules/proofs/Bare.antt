-- What a call's moves do to the list, phases and marks left out: all that the plain scheduler could see of it. Assumes nothing.
use Prim.Native.Nat.{ℕ}
use mathlib.Core.Path.{◌≡◌, refl, ap, ◌∙◌}
use mathlib.Core.Bool.{Bool, true, false}
use mathlib.Core.List.{List, [], ◌∷◌, map}
use mathlib.Core.Option.{Option}
use Rattle.rules.specs.declared.Tick.{Tick}
use Rattle.rules.specs.declared.Phase.{Phase}
use Rattle.rules.specs.declared.Phase.TheVariants.{Delayed, Released}
use Rattle.rules.specs.declared.Call.{Call}
use Rattle.rules.specs.declared.Call.TheVariants.{Wait, Activate, Terminate, Chain}
use Rattle.rules.specs.Words.{insert_by}
use Rattle.rules.specs.Table.{Table}
use Rattle.rules.specs.Jobs.{Job, Pending, accepted, bare, new_job, before}
use Rattle.rules.specs.Calls.{tick_of}
use Rattle.rules.specs.Late.{marked_at}
use Rattle.rules.specs.Layer.{is_first, insert, without, settled, settled_by, entered, moved, tasks}
use Rattle.rules.specs.Plain.{plain_tasks}
use Rattle.rules.proofs.Lists.{map_insert}
use Rattle.rules.proofs.Moves.{without_marked}

pub tasks_bare : (l : List Job) → tasks l ≡ plain_tasks (map bare l)
tasks_bare [] = refl
tasks_bare (j ∷ l) = ap (λ z. j.task ∷ z) (tasks_bare l)

marked_bare : (t : Tick) (l : List Job) → map bare (map (marked_at t) l) ≡ map bare l
marked_bare t [] = refl
marked_bare t (j ∷ l) = ap (λ z. bare j ∷ z) (marked_bare t l)

settled_bare : (l : List Job) → map bare (settled l).jobs ≡ map bare l
settled_bare [] = refl
settled_bare (j ∷ l) = go j.phase
  where
    go : (s : Phase) → map bare (settled_by s j l).jobs ≡ map bare (j ∷ l)
    go Delayed = refl
    go Released = refl

entered_bare : (T : Table) (j : Pending) (l : List Job) (f : Bool) → map bare (entered (before T) j l f).jobs ≡ insert_by (before T) j (map bare l)
entered_bare T j l true = map_insert bare (before T) (new_job Released j) l
entered_bare T j l false = map_insert bare (before T) (new_job Delayed j) l

-- the list after a call, r being the task that runs
abbrev pub bare_after : Table → Option ℕ → List Job → Call → List Pending
bare_after T r l (Wait t) = map bare l
bare_after T r l (Activate t n) = insert_by (before T) (accepted T t n) (map bare l)
bare_after T r l (Terminate t) = map bare (without r l)
bare_after T r l (Chain t n) = insert_by (before T) (accepted T t n) (map bare (without r l))

pub moved_bare : (T : Table) (r : Option ℕ) (l : List Job) (e : Call)
    → map bare (moved (before T) (accepted T) r (map (marked_at (tick_of e)) l) e).jobs ≡ bare_after T r l e
moved_bare T r l (Wait t) = marked_bare t l
moved_bare T r l (Activate t n) =
    entered_bare T (accepted T t n) (map (marked_at t) l) (is_first (before T) (accepted T t n) (map (marked_at t) l))
    ∙ ap (insert_by (before T) (accepted T t n)) (marked_bare t l)
moved_bare T r l (Terminate t) =
    settled_bare (without r (map (marked_at t) l)) ∙ ap (map bare) (without_marked t r l) ∙ marked_bare t (without r l)
moved_bare T r l (Chain t n) =
    settled_bare (insert (before T) (new_job Delayed (accepted T t n)) (without r (map (marked_at t) l)))
    ∙ map_insert bare (before T) (new_job Delayed (accepted T t n)) (without r (map (marked_at t) l))
    ∙ ap (insert_by (before T) (accepted T t n)) (ap (map bare) (without_marked t r l) ∙ marked_bare t (without r l))
