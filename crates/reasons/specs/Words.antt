-- Parts of a line that says why a task waits. Assumes nothing.
use Rattle.std.specs.Prelude.{ℕ, List, [], ◌∷◌, ◌++◌}
use Rattle.rules.specs.declared.Tick.{Tick}
use Rattle.rules.specs.Print.{ascii, decimal, spaced}

-- task m runs; how it stands to the one that waits; its deadline
abbrev pub waits_text : ℕ → List ℕ → Tick → List ℕ
waits_text m how t = ascii "is waiting: task " ++ (decimal m ++ (how ++ decimal t.0))

-- a question is refused by number k
abbrev pub refused_text : ℕ → List ℕ
refused_text k = ascii "is refused: " ++ decimal k

-- what the line of task n begins with
abbrev pub named_text : ℕ → List ℕ
named_text n = ascii "task " ++ (decimal n ++ (32 ∷ []))

-- the line of task n where its question is refused by number k
abbrev pub refused_line : ℕ → ℕ → List ℕ
refused_line n k = spaced (ascii "task" ∷ decimal n ∷ ascii "is refused:" ∷ decimal k ∷ [])
