-- The 32 places of an answer hold all newly late jobs. Assumes nothing.
use Prim.Native.Nat.{ℕ, zero, suc, ◌-◌, ◌≤◌}
use mathlib.Core.Path.{◌≡◌, refl, ap, sym, ◌∙◌}
use mathlib.Core.Bool.{Bool, true, false, cond, not, ◌&&◌}
use mathlib.Core.List.{List, [], ◌∷◌, ◌++◌, map}
use lib.ListN.{length, replicate, length-map, length-append, length-replicate}
use native.Mathlib.Omega.{arith}
use Rattle.rules.specs.Words.{unless, only, All}
use Rattle.rules.specs.Jobs.{Job, bare}
use Rattle.rules.specs.Calls.{tick_of}
use Rattle.rules.specs.Late.{is_late, newly_late}
use Rattle.rules.specs.Layer.{Board, fresh, result, tasks, in_places}
use Rattle.rules.specs.Run.{run}
use Rattle.rules.proofs.Bare.{tasks_bare}
use Rattle.rules.specs.Statement.{PlacesSuffice, Places}
use Rattle.rules.proofs.Room.{room_for_all}

only_fewer : (f : Job → Bool) (l : List Job) → length (only f l) ≤ length l
only_fewer f [] = omega arith
only_fewer f (j ∷ l) = go (f j) (only_fewer f l)
  where
    go : (t : Bool) → length (only f l) ≤ length l → length (cond t (j ∷ only f l) (only f l)) ≤ suc (length l)
    go true h = omega arith
    go false h = omega arith

all_zero : (n : ℕ) → All (λ (m : ℕ). m ≡ 0) (replicate n 0)
all_zero zero = tt
all_zero (suc n) = (refl, all_zero n)

-- as many as there are places for
fit : (l : List Job) → length l ≤ 32 → Places (map bare l) (in_places (tasks l))
fit l h =
    record {
      counted = length-map l (λ (j : Job). j.task) ∙ sym (length-map l bare);
      unused = unused;
      placed = ap (λ z. z ++ unused) (tasks_bare l);
      zeros = all_zero (32 - length (tasks l));
      in_all = omega (arith, length-map l (λ (j : Job). j.task), length-append (tasks l) unused, length-replicate {A = ℕ} (32 - length (tasks l)) 0);
    }
  where
    unused : List ℕ
    unused = replicate (32 - length (tasks l)) 0

pub places_suffice : PlacesSuffice
places_suffice T p calls e = go (result T b e)
  where
    b : Board
    b = run T fresh calls

    late : List Job
    late = newly_late (tick_of e) b.jobs

    go : (k : ℕ) → Places (unless k [] (map bare late)) (in_places (unless k [] (tasks late)))
    go zero = fit late (omega (arith, only_fewer (λ (j : Job). is_late (tick_of e) j && not j.reported) b.jobs, room_for_all T p calls))
    go (suc k) = fit [] (omega arith)
