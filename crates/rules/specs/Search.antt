-- Q-3, "Walk in from the back": a new job's place in the list, searched for from the front and from the back. Assumes nothing.
use Rattle.std.specs.Prelude.{ℕ, suc, ◌-◌, min, ◌≡◌, Bool, cond, List, [], ◌∷◌, ◌++◌, map, reverse, length, take, drop}
use Rattle.rules.specs.declared.Call.{Call}
use Rattle.rules.specs.Words.{insert_by}
use Rattle.rules.specs.Table.{Table}
use Rattle.rules.specs.Jobs.{Pending, bare, before, InOrder}
use Rattle.rules.specs.Layer.{fresh}
use Rattle.rules.specs.Run.{run}

-- ---- for any elements and any test which goes before which; a place is how many elements stand in front of it

-- from the front: in front of the first element that a goes before, or behind all
abbrev pub from_front {ℓ} : {A : Type ℓ} → (A → A → Bool) → A → List A → ℕ
from_front goes a [] = 0
from_front goes a (b ∷ l) = cond (goes a b) 0 (suc (from_front goes a l))

-- along a list that is read from its back: behind the first element that a does not go before, or in front of all
abbrev pub backwards {ℓ} : {A : Type ℓ} → (A → A → Bool) → A → List A → ℕ
backwards goes a [] = 0
backwards goes a (b ∷ l) = cond (goes a b) (backwards goes a l) (suc (length l))

abbrev pub from_back {ℓ} : {A : Type ℓ} → (A → A → Bool) → A → List A → ℕ
from_back goes a l = backwards goes a (reverse l)

-- how many elements that reads
abbrev pub reads_of {ℓ} : {A : Type ℓ} → (A → A → Bool) → A → List A → ℕ
reads_of goes a [] = 0
reads_of goes a (b ∷ l) = suc (cond (goes a b) (reads_of goes a l) 0)

abbrev pub reads_from_back {ℓ} : {A : Type ℓ} → (A → A → Bool) → A → List A → ℕ
reads_from_back goes a l = reads_of goes a (reverse l)

-- ---- what is claimed

-- both searches find the same place, and there an insertion puts a. From the back are read those that go one place back, and one more where there is one
pub record FoundFromBack {A : Type 0} (goes : A → A → Bool) (a : A) (l : List A) : Type 0 where
  pub same : from_back goes a l ≡ from_front goes a l
  pub there : insert_by goes a l ≡ take (from_back goes a l) l ++ (a ∷ drop (from_back goes a l) l)
  pub reads : reads_from_back goes a l ≡ min (length l) (suc (length l - from_back goes a l))

-- so it is in every list that is in order
abbrev pub PlaceFromBack : Type 0
PlaceFromBack = (T : Table) (j : Pending) (l : List Pending) → InOrder T l → FoundFromBack (before T) j l

-- and the layer's list is, after any sequence of calls
abbrev pub ListFromBack : Type 0
ListFromBack = (T : Table) (calls : List Call) (j : Pending) → FoundFromBack (before T) j (map bare (run T fresh calls).jobs)
