-- What is counted of a task, in a line. Assumes nothing.
use Rattle.std.specs.Prelude.{List, [], ◌∷◌, ℕ}
use Rattle.rules.specs.declared.Tally.{Tally}
use Rattle.rules.specs.Print.{decimal, spaced}

-- late jobs, ended jobs, greatest response
unfoldable pub tally_text : Tally → List ℕ
tally_text c = spaced (decimal c.late ∷ decimal c.ended ∷ decimal c.response ∷ [])
