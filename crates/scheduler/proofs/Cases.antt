-- Rows of refusals, for the functions' own proofs. Assumes nothing.
use Prim.Native.Nat.{ℕ}
use mathlib.Core.Path.{◌≡◌}
use mathlib.Core.Bool.{Bool, true, false}
use Rattle.rules.specs.Words.{◌if◌else◌}

-- the row that applies, and one that does not
pub row_here : (n : ℕ) (c : Bool) (m : ℕ) → c ≡ true → n ≡ (n if c else m)
unfolding ◌if◌else◌
row_here n c m e = rw e

pub row_next : (n : ℕ) (c : Bool) (m k : ℕ) → c ≡ false → k ≡ m → k ≡ (n if c else m)
unfolding ◌if◌else◌
row_next n c m k e q = rw e q
