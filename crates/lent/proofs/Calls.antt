-- What a call left and answered is the step's whole result. Assumes nothing.
use mathlib.Core.Path.{◌≡◌}
use Rattle.rules.specs.declared.Answer.{Answer}
use Rattle.rules.specs.declared.Call.{Call}
use Rattle.scheduler.specs.declared.State.{State}
use Rattle.scheduler.specs.declared.Stepped.{Stepped}
use Rattle.scheduler.specs.State.{Handed, step_of}
use Rattle.board.specs.Lent.{Left}

abbrev both : State → Answer → Stepped
both s a = record { state = s; answer = a }

-- what a call left and answered is the step's whole result
pub whole : (s : State) (e : Call) (a : Answer) (t : State) → Left s e a t → (both t a ≡ step_of s e) × Handed t
whole s e a t l = ((λ i. both (l.leaves i) (l.answers i)), l.handed)
