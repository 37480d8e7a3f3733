-- What the check reads and a call leaves where they are lent. Assumes nothing.
use Rattle.std.specs.Prelude.{◌≡◌, List}
use Rattle.rules.specs.declared.Answer.{Answer}
use Rattle.rules.specs.declared.Call.{Call}
use Rattle.rules.specs.declared.Line.{Line}
use Rattle.scheduler.specs.declared.Checked.{Checked}
use Rattle.scheduler.specs.declared.State.{State}
use Rattle.scheduler.specs.State.{Handed, HandedOut, checked_for, step_of}

-- "The check reads the lent table lines as they are": of lines xs it gives r
pub record LinesChecked (xs : List Line) (r : Checked) : Type 0 where
  -- the rule-book's answer, and a fresh state or the empty one
  pub gives : r ≡ checked_for (record { lines = xs })
  -- which counts as handed out where the number is 0
  pub hands_out : HandedOut r

-- "one scheduler state per recorder head, updated where it stands by the board's calls": call e found state s, answered a and left state t
pub record Left (s : State) (e : Call) (a : Answer) (t : State) : Type 0 where
  -- the rule-book's answer and next state
  pub answers : a ≡ (step_of s e).answer
  pub leaves : t ≡ (step_of s e).state
  -- a refused call changes nothing
  pub refused : (a.result ≡ 0 → ⊥) → t ≡ s
  -- what is left is handed on
  pub handed : Handed t
