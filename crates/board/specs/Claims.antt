-- All that is claimed of lent lines and states beside their own promises; proofs/Claims.antt proves it. Assumes nothing.
use Rattle.std.specs.Prelude.{◌≡◌, List, [], ◌∷◌}
use Rattle.rules.specs.declared.Answer.{Answer}
use Rattle.rules.specs.declared.Call.{Call}
use Rattle.rules.specs.declared.Line.{Line}
use Rattle.rules.specs.Outcome.{One, OneWith}
use Rattle.scheduler.specs.declared.Checked.{Checked}
use Rattle.scheduler.specs.declared.State.{State}
use Rattle.scheduler.specs.Claims.{Goes}
use Rattle.board.specs.Lent.{LinesChecked, Left}

-- ---- one outcome

-- any two that satisfy the check's promise are equal
abbrev pub OneChecked : Type 0
OneChecked = (xs : List Line) → One (LinesChecked xs)

-- any two that satisfy a call's
abbrev pub OneLeft : Type 0
OneLeft = (s : State) (e : Call) → OneWith (Left s e)

-- ---- a whole run: the check of lent lines, then any sequence of calls on the state that it gave, each where the one before left it

-- calls es, of which P says what each leaves, went from s to t and told these answers
abbrev pub Went : {S A : Type 0} → (S → Call → A → S → Type 0) → S → List Call → List A → S → Type 0
Went P s [] [] t = t ≡ s
Went P s [] (a ∷ told) t = ⊥
Went P s (e ∷ es) [] t = ⊥
Went {S} P s (e ∷ es) (a ∷ told) t = (u : S) × P s e a u × Went P u es told t

abbrev pub GoesAsRuled : Type 0
GoesAsRuled = (xs : List Line) (r : Checked) → LinesChecked xs r → r.verdict.number ≡ 0 → (es : List Call) (told : List Answer) (t : State) → Went Left r.state es told t → Goes (record { lines = xs }) es told t

pub record Claims : Type 0 where
  pub one_checked : OneChecked
  pub one_left : OneLeft
  -- demands 2 and 3, for whole runs
  pub goes_as_ruled : GoesAsRuled
