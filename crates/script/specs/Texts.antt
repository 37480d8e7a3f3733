-- Parts of a text, and bytes put one behind the other. Assumes nothing.
use Rattle.std.specs.Prelude.{◌≡◌, ◌==◌, ℕ, List}
use Rattle.std.specs.List.{before_first, after_first}

-- the first part of a text, up to the byte that ends it, and what stands behind that byte
abbrev pub IsFirstPart : ℕ → List ℕ → List ℕ → List ℕ → Type 0
IsFirstPart end text part rest =
    (part ≡ before_first (λ b. b == end) text) × (rest ≡ after_first (λ b. b == end) text)
