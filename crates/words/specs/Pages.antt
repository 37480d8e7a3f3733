-- A text put on pages of whole lines, which are handed on one after the other. Assumes nothing.
use Rattle.std.specs.Prelude.{◌≡◌, ℕ, ◌+◌, ◌-◌, ◌≤◌, List, length, slice_index}
use mathlib.Core.Logic.{◌⊎◌}
use Rattle.print.specs.Buffers.{Put}

-- a text ends in a newline
abbrev pub EndsLine : List ℕ → Type 0
EndsLine text = slice_index text (length text - 1) ≡ 10

-- a text is put behind what stands on a page; then the page may be taken, from one state of what takes it to another, and begun anew. Behind a line's end the page has room for a line
abbrev pub Paged : {S : Type 0} → (S → List ℕ → ℕ → S → Type 0) → S → List ℕ → ℕ → List ℕ → S → List ℕ → ℕ → Type 0
Paged takes sink old at text later new next =
    ((n : ℕ) × Put old at text new n × (((next ≡ n) × (later ≡ sink)) ⊎ ((next ≡ 0) × takes sink new n later)))
    × (EndsLine text → next + 1024 ≤ 65536)
