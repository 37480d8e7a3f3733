-- A balance that every call keeps is kept by every sequence of calls. Assumes nothing.
use Prim.Native.Nat.{ℕ, ◌+◌}
use mathlib.Core.Path.{◌≡◌}
use mathlib.Core.Bool.{Bool}
use mathlib.Core.List.{List, [], ◌∷◌}
use native.Mathlib.Omega.{arith}
use Rattle.rules.specs.declared.Call.{Call}
use Rattle.rules.specs.Words.{count_by}
use Rattle.rules.specs.Table.{Table}
use Rattle.rules.specs.Layer.{Board, next}
use Rattle.rules.specs.Run.{run}
use Rattle.rules.specs.History.{along}
use Rattle.rules.proofs.Lists.{count_append}

-- what came in and what went out, as a stock m of the board says
pub balance : {A B : Type 0} (T : Table) (I : Board → Type 0) → ((b : Board) → I b → (e : Call) → I (next T b e))
    → (came : Board → Call → List A) (f : A → Bool) (went : Board → Call → List B) (g : B → Bool) (m : Board → ℕ)
    → ((b : Board) → I b → (e : Call) → count_by f (came b e) + m b ≡ count_by g (went b e) + m (next T b e))
    → (b : Board) → I b → (es : List Call) → count_by f (along T came b es) + m b ≡ count_by g (along T went b es) + m (run T b es)
balance T I keep came f went g m step b i [] = omega arith
balance T I keep came f went g m step b i (e ∷ es) =
    omega (
      arith,
      step b i e,
      balance T I keep came f went g m step (next T b e) (keep b i e) es,
      count_append f (came b e) (along T came (next T b e) es),
      count_append g (went b e) (along T went (next T b e) es),
    )
