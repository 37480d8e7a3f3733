-- All that is claimed of the check and the calls beside their own promises; proofs/Claims.antt proves it. Assumes nothing.
use Rattle.std.specs.Prelude.{◌≡◌, ◌↔◌, List, [], ◌∷◌, map, ℕ, ◌≤◌, length, replicate}
use Rattle.rules.specs.declared.Answer.{Answer}
use Rattle.rules.specs.declared.Call.{Call}
use Rattle.rules.specs.declared.Line.{Line}
use Rattle.rules.specs.Words.{places}
use Rattle.rules.specs.Answers.{Choice}
use Rattle.rules.specs.Outcome.{One}
use Rattle.rules.specs.Table.{Table, size, fine, check}
use Rattle.rules.specs.Layer.{fresh}
use Rattle.rules.specs.Plain.{Plain, start, plain_result, plain_choice, plain_next}
use Rattle.rules.specs.Run.{run, answers, Head, fresh_head, head_run, Reached}
use Rattle.rules.specs.Why.{why}
use Rattle.table.specs.Lines.{TaskTable}
use Rattle.table.specs.Lines.{packed, lines_in}
use Rattle.scheduler.specs.declared.State.{State}
use Rattle.scheduler.specs.State.{state_of, table_of, head_of, Handed, checked_for, checked_of, step_of, CheckGives, CallGives, why_of}

-- table and head, the kernel's ready queue with it, can be read back from a state
pub record Back (T : Table) (h : Head) : Type 0 where
  pub table : table_of (state_of T h) ≡ T
  pub head : head_of (state_of T h) ≡ h

abbrev pub ReadsBack : Type 0
ReadsBack = (T : Table) (h : Head) → Reached T h → Back T h

-- g holds a table: its true count and, if each has a place, its lines
pub record CopyOf (T : Table) (g : TaskTable) : Type 0 where
  pub counted : g.count ≡ size T
  pub placed : length g.lines ≡ places
  pub copied : size T ≤ places → lines_in g ≡ T.lines

-- every table, accepted or refused, gets the rule-book's answer; a state is handed out where that is 0
pub record Answered (T : Table) (g : TaskTable) : Type 0 where
  pub gives : checked_of g ≡ checked_for T
  pub hands_out : check T ≡ fine → Handed (checked_of g).state

abbrev pub AnswersEvery : Type 0
AnswersEvery = (T : Table) (g : TaskTable) → CopyOf T g → Answered T g

-- a state of lines xs with no job; tick, counts and greatest responses 0
pub record Fresh (xs : List Line) (s : State) : Type 0 where
  pub lines : lines_in s.table ≡ xs
  pub jobs : s.list.count ≡ 0
  pub tick : s.last.0 ≡ 0
  pub counts : s.monitor.tallies ≡ replicate 32 (record { late = 0; ended = 0; response = 0 })

-- on 0 the check gives a fresh state of its lines, after a refusal an empty one of no lines
pub record StateFor (T : Table) (s : State) : Type 0 where
  pub accepted : (check T).number ≡ 0 → Fresh T.lines s
  pub refused : ((check T).number ≡ 0 → ⊥) → Fresh [] s

abbrev pub GivesFresh : Type 0
GivesFresh = (T : Table) → StateFor T (checked_for T).state

-- what the check gives counts as handed out exactly where its number is 0: the empty state after a refusal doesn't
abbrev pub HandedExactly : Type 0
HandedExactly = (T : Table) → Handed (checked_for T).state ↔ ((check T).number ≡ 0)

-- a refused call changes nothing in the state
abbrev pub RefusedUnchanged : Type 0
RefusedUnchanged = (s : State) → Handed s → (e : Call) → ((step_of s e).answer.result ≡ 0 → ⊥) → (step_of s e).state ≡ s

-- ---- one outcome

-- any two that satisfy the check's promise are equal
abbrev pub OneChecked : Type 0
OneChecked = (g : TaskTable) → One (CheckGives g)

-- any two that satisfy a call's
abbrev pub OneCalled : Type 0
OneCalled = (s : State) (e : Call) → One (CallGives s e)

-- ---- a whole run: the check, then any sequence of calls

-- the state that the check gives for a table
abbrev pub checked : Table → State
checked T = (checked_of (packed T.lines)).state

-- the state after a sequence of calls, and what each call answered
abbrev pub state_after : State → List Call → State
state_after s [] = s
state_after s (e ∷ es) = state_after (step_of s e).state es

abbrev pub answered : State → List Call → List Answer
answered s [] = []
answered s (e ∷ es) = (step_of s e).answer ∷ answered (step_of s e).state es

-- the result numbers that the plain scheduler gives the same calls, and the job that it runs after each
abbrev pub plain_results : Table → Plain → List Call → List ℕ
plain_results T p [] = []
plain_results T p (e ∷ es) = plain_result T p e ∷ plain_results T (plain_next T p e) es

abbrev pub plain_choices : Table → Plain → List Call → List Choice
plain_choices T p [] = []
plain_choices T p (e ∷ es) = plain_choice T (plain_next T p e).pending ∷ plain_choices T (plain_next T p e) es

-- to a sequence of calls on an accepted table these answers were told, and state s was left in the end
pub record Goes (T : Table) (calls : List Call) (told : List Answer) (s : State) : Type 0 where
  -- demand 2: the answers, and the state in the end, are the rule-book's
  pub answers_are : told ≡ answers T fresh calls
  pub state_is : s ≡ state_of T (head_run T fresh_head calls)
  -- demand 3: result numbers and running jobs are the plain scheduler's
  pub results_plain : map (λ (a : Answer). a.result) told ≡ plain_results T start calls
  pub running_plain : map (λ (a : Answer). a.running) told ≡ plain_choices T start calls

abbrev pub RunsAsRuled : Type 0
RunsAsRuled = (T : Table) → check T ≡ fine → (calls : List Call) → Goes T calls (answered (checked T) calls) (state_after (checked T) calls)

-- to the question, after any sequence of calls on an accepted table, the rule-book's answer is given: the one true reason, or 3
abbrev pub WhyAsRuled : Type 0
WhyAsRuled = (T : Table) → check T ≡ fine → (calls : List Call) (n : ℕ) → why_of (state_after (checked T) calls) n ≡ why T (run T fresh calls) n

pub record Claims : Type 0 where
  -- nothing of a head is lost in its state
  pub reads_back : ReadsBack
  -- the check answers every table
  pub answers_every : AnswersEvery
  pub gives_fresh : GivesFresh
  pub handed_exactly : HandedExactly
  -- demand 1, the calls' part
  pub refused_unchanged : RefusedUnchanged
  pub one_checked : OneChecked
  pub one_called : OneCalled
  -- demands 2 and 3, for whole runs
  pub runs_as_ruled : RunsAsRuled
  -- Q-1, for whole runs
  pub why_as_ruled : WhyAsRuled
