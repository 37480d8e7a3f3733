-- Document 01, "How tightly the statements bind": a promise leaves one possible outcome for each input. Assumes nothing.
use Rattle.std.specs.Prelude.{◌≡◌}

-- any two results that satisfy promise P are equal
abbrev pub One : {A : Type 0} → (A → Type 0) → Type 0
One {A} P = (r r' : A) → P r → P r' → r ≡ r'

-- and so is what a lent state or buffer holds afterwards
abbrev pub OneWith : {A B : Type 0} → (A → B → Type 0) → Type 0
OneWith {A} {B} P = (r r' : A) (b b' : B) → P r b → P r' b' → (r ≡ r') × (b ≡ b')
