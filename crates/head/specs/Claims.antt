-- All that is claimed of what C is given beside the promises of its check and calls; proofs/Claims.antt proves it. Assumes nothing.
use Rattle.std.specs.Prelude.{◌≡◌, List, map, Result}
use Rattle.rules.specs.declared.Answer.{Answer}
use Rattle.rules.specs.declared.Call.{Call}
use Rattle.rules.specs.declared.Line.{Line}
use Rattle.rules.specs.declared.Verdict.{Verdict}
use Rattle.rules.specs.declared.Reason.{Reason}
use Rattle.rules.specs.declared.CallRefusal.{CallRefusal}
use Rattle.rules.specs.Outcome.{One, OneWith}
use Rattle.scheduler.specs.declared.State.{State}
use Rattle.scheduler.specs.Claims.{Goes}
use Rattle.board.specs.Claims.{Went}
use Rattle.head.specs.declared.HeadState.{HeadState}
use Rattle.head.specs.declared.HeadAnswer.{HeadAnswer}
use Rattle.head.specs.declared.HeadChecked.{HeadChecked}
use Rattle.head.specs.Placed.{placed, state_in, answer_for, verdict_for, why_for}
use Rattle.head.specs.Calls.{LinesChecked, Left}

-- ---- nothing is lost, and nothing is made up

abbrev pub ReadsBack : Type 0
ReadsBack = (s : State) → state_in (placed s) ≡ s

abbrev pub PlacesBack : Type 0
PlacesBack = (p : HeadState) → placed (state_in p) ≡ p

abbrev pub AnswersApart : Type 0
AnswersApart = (a b : Answer) → answer_for a ≡ answer_for b → a ≡ b

abbrev pub VerdictsApart : Type 0
VerdictsApart = (v w : Verdict) → verdict_for v ≡ verdict_for w → v ≡ w

abbrev pub WhysApart : Type 0
WhysApart = (v w : Result Reason CallRefusal) → why_for v ≡ why_for w → v ≡ w

-- ---- one outcome

-- any two that satisfy the check's promise are equal
abbrev pub OneChecked : Type 0
OneChecked = (xs : List Line) → One (LinesChecked xs)

-- and any two that satisfy a call's
abbrev pub OneLeft : Type 0
OneLeft = (p : HeadState) (e : Call) → OneWith (Left p e)

-- ---- a whole run: the check of lent lines, then any sequence of calls on the state that it gave, each where the one before left it

-- what C is told and what is left are the answers and the state of demands 2 and 3
pub record HeadGoes (xs : List Line) (es : List Call) (told : List HeadAnswer) (t : HeadState) : Type 0 where
  pub answers : List Answer
  pub state : State
  pub told_as : told ≡ map answer_for answers
  pub left_as : t ≡ placed state
  pub goes : Goes (record { lines = xs }) es answers state

abbrev pub GoesAsRuled : Type 0
GoesAsRuled = (xs : List Line) (r : HeadChecked) → LinesChecked xs r → r.verdict.number ≡ 0 → (es : List Call) (told : List HeadAnswer) (t : HeadState) → Went Left r.state es told t → HeadGoes xs es told t

pub record Claims : Type 0 where
  pub reads_back : ReadsBack
  pub places_back : PlacesBack
  pub answers_apart : AnswersApart
  pub verdicts_apart : VerdictsApart
  pub whys_apart : WhysApart
  pub one_checked : OneChecked
  pub one_left : OneLeft
  -- demands 2 and 3, for whole runs
  pub goes_as_ruled : GoesAsRuled
