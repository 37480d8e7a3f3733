-- What stands in a lent buffer once a text was put into it: the bytes of a page, from the place that its `len` is. Assumes nothing.
use Rattle.std.specs.Prelude.{ℕ, ◌+◌, ◌-◌, ◌≡◌, List, [], ◌∷◌, length, take}
use Rattle.std.proofs.lemmas.List.Edits.{sets}
use Rattle.rules.specs.declared.Named.{Named}
use Rattle.rules.specs.Answers.{Choice}
use Rattle.rules.specs.Print.{spaced, run_text, due_text, first_text, second_text}

-- what there is room for from a place on
abbrev pub fits_at : List ℕ → ℕ → List ℕ → List ℕ
fits_at old at t = take (length old - at) t

-- text t is put at a place of a buffer, which then is `new`, and `next` is the place behind it; what doesn't fit is left out
pub record Put (old : List ℕ) (at : ℕ) (t : List ℕ) (new : List ℕ) (next : ℕ) : Type 0 where
  pub is : new ≡ sets old at (fits_at old at t)
  pub place : next ≡ at + length (fits_at old at t)

-- two words that stand side by side: the running task and its deadline; the lines that a table's answer names
abbrev pub choice_text : Choice → List ℕ
choice_text x = spaced (run_text x ∷ due_text x ∷ [])

abbrev pub named_text : Named → List ℕ
named_text x = spaced (first_text x ∷ second_text x ∷ [])
