-- Small words that the rules are written in. Assumes nothing.
use Rattle.std.specs.Prelude.{ℕ, zero, suc, ◌≤◌, Bool, true, false, cond, ◌&&◌, List, [], ◌∷◌, leb, eqb}

infixr 10 ◌if◌else◌
-- `8 if c else m` is 8 where the condition c holds, and m where it does not
unfoldable pub ◌if◌else◌ {ℓ} : {A : Type ℓ} → A → Bool → A → A
◌if◌else◌ n true m = n
◌if◌else◌ n false m = m

-- `unless k old new`: the new value where the number k is 0, the old one where it is a refusal
abbrev pub unless {ℓ} : {A : Type ℓ} → ℕ → A → A → A
unless zero old new = new
unless (suc r) old new = old

-- how many places an array has: for the lines of a table, the jobs of a list, the late tasks of an answer, the tallies of a state
abbrev pub places : ℕ
places = 32

-- a number from lo to hi, and its test
abbrev pub Within : ℕ → ℕ → ℕ → Type 0
Within lo hi x = (lo ≤ x) × (x ≤ hi)

abbrev pub within : ℕ → ℕ → ℕ → Bool
within lo hi x = leb lo x && leb x hi

-- how many elements pass a test
abbrev pub count_by {ℓ} : {A : Type ℓ} → (A → Bool) → List A → ℕ
count_by f [] = 0
count_by f (a ∷ l) = cond (f a) (suc (count_by f l)) (count_by f l)

-- how often a number stands in a list
abbrev pub count : ℕ → List ℕ → ℕ
count n l = count_by (eqb n) l

-- the elements that pass a test
abbrev pub only {ℓ} : {A : Type ℓ} → (A → Bool) → List A → List A
only f [] = []
only f (a ∷ l) = cond (f a) (a ∷ only f l) (only f l)

-- a new element goes in front of the first one that it goes before, or to the end
abbrev pub insert_by {ℓ} : {A : Type ℓ} → (A → A → Bool) → A → List A → List A
insert_by goes a [] = a ∷ []
insert_by goes a (b ∷ l) = cond (goes a b) (a ∷ b ∷ l) (b ∷ insert_by goes a l)

-- the last element, or d where there is none
abbrev pub last_or {ℓ} : {A : Type ℓ} → A → List A → A
last_or d [] = d
last_or d (a ∷ l) = last_or a l

-- a fact of every element
abbrev pub All {ℓ} : {A : Type ℓ} → (A → Type 0) → List A → Type 0
All P [] = Unit {0}
All P (a ∷ l) = P a × All P l

-- a fact of every element and each one behind it
abbrev pub Pairs {ℓ} : {A : Type ℓ} → (A → A → Type 0) → List A → Type 0
Pairs R [] = Unit {0}
Pairs R (a ∷ l) = All (R a) l × Pairs R l
