-- What the check and the calls promise a C caller: what the scheduler's give for the state that is read back. Assumes nothing.
use Rattle.std.specs.Prelude.{ℕ, ◌≡◌, List}
use Rattle.rules.specs.declared.Call.{Call}
use Rattle.rules.specs.declared.Line.{Line}
use Rattle.table.specs.Lines.{TaskTable}
use Rattle.scheduler.specs.declared.Checked.{Checked}
use Rattle.scheduler.specs.declared.Stepped.{Stepped}
use Rattle.scheduler.specs.State.{checked_for, checked_of, step_of, why_of}
use Rattle.head.specs.declared.HeadState.{HeadState}
use Rattle.head.specs.declared.HeadAnswer.{HeadAnswer}
use Rattle.head.specs.declared.HeadChecked.{HeadChecked}
use Rattle.head.specs.declared.HeadStepped.{HeadStepped}
use Rattle.head.specs.declared.HeadWhy.{HeadWhy}
use Rattle.head.specs.Placed.{placed, state_in, HeadHanded, answer_for, verdict_for, why_for}

-- ---- the check

-- what the scheduler's check gives, as C keeps it
abbrev pub checked_placed : Checked → HeadChecked
checked_placed r = record { state = placed r.state; verdict = verdict_for r.verdict }

-- of a table by value
unfoldable pub checked_table : TaskTable → HeadChecked
checked_table t = checked_placed (checked_of t)

-- what the check gives counts as handed out where its number is 0
abbrev pub HeadHandedOut : HeadChecked → Type 0
HeadHandedOut r = r.verdict.number ≡ 0 → HeadHanded r.state

-- of lent lines xs the check gives r
pub record LinesChecked (xs : List Line) (r : HeadChecked) : Type 0 where
  pub gives : r ≡ checked_placed (checked_for (record { lines = xs }))
  pub hands_out : HeadHandedOut r

-- ---- the calls

-- what a step gives, as C keeps it
abbrev pub stepped_for : Stepped → HeadStepped
stepped_for r = record { state = placed r.state; answer = answer_for r.answer }

-- the rule-book's answer and next state for the state that is read back
unfoldable pub head_step : HeadState → Call → HeadStepped
head_step p e = stepped_for (step_of (state_in p) e)

-- call e found state p, answered a and left state t
pub record Left (p : HeadState) (e : Call) (a : HeadAnswer) (t : HeadState) : Type 0 where
  pub answers : a ≡ (head_step p e).answer
  pub leaves : t ≡ (head_step p e).state
  -- a refused call changes nothing
  pub refused : (a.result ≡ 0 → ⊥) → t ≡ p
  -- what is left is handed on
  pub handed : HeadHanded t

-- ---- the question

-- what the scheduler's is answered with, for the state that is read back
unfoldable pub head_why : HeadState → ℕ → HeadWhy
head_why p n = why_for (why_of (state_in p) n)
