-- A state can be read back from what C keeps, and an answer from what C is given. Assumes nothing.
use Prim.Native.Nat.{ℕ, zero, suc}
use mathlib.Core.Path.{◌≡◌, refl, sym, ap, ◌∙◌}
use mathlib.Core.Bool.{Bool, true, false, cond}
use lib.Dec.{eqb}
use mathlib.Core.List.{List, [], ◌∷◌, map}
use Rattle.rules.specs.declared.Tick.{Tick}
use Rattle.rules.specs.declared.Job.{Job}
use Rattle.rules.specs.declared.Phase.{Phase}
use Rattle.rules.specs.declared.Phase.TheVariants.{Delayed, Released}
use Rattle.rules.specs.declared.KernelCall.{KernelCall}
use Rattle.rules.specs.declared.KernelCall.TheVariants.{NoCall, ActivateTask, ChainTask, TerminateTask}
use Rattle.rules.specs.declared.Named.{Named}
use Rattle.rules.specs.declared.Named.TheVariants.{NoneNamed, TheLine, BothLines}
use Rattle.rules.specs.declared.Answer.{Answer}
use Rattle.rules.specs.declared.Verdict.{Verdict}
use Rattle.rules.specs.declared.Reason.TheVariants.{NonePending, ItRuns, Earlier, ThereFirst}
use Rattle.rules.specs.declared.Reason.{Reason}
use Rattle.rules.specs.declared.CallRefusal.{CallRefusal}
use Rattle.rules.specs.declared.CallRefusal.TheVariants.{NoJob, NoTask, LimitReached, BadTick, DueBeyond, NoPlace}
use Rattle.std.specs.Prelude.{Some, None, Result, Ok, Err}
use Rattle.rules.specs.Answers.{Choice, runs_as, phase_of, call_number}
use Rattle.rules.specs.Layer.{is_released}
use Rattle.scheduler.specs.declared.State.{State}
use Rattle.head.specs.declared.HeadJob.{HeadJob}
use Rattle.head.specs.declared.HeadState.{HeadState}
use Rattle.head.specs.declared.HeadAnswer.{HeadAnswer}
use Rattle.head.specs.declared.HeadVerdict.{HeadVerdict}
use Rattle.head.specs.declared.HeadWhy.{HeadWhy}
use Rattle.head.specs.Placed.{placed_job, job_in, placed, state_in, runs_in, task_in, due_in, number_of, called_of, answer_for, verdict_on, verdict_for, why_for}

-- ---- the state

phase_back : (p : Phase) → phase_of (is_released p) ≡ p
phase_back Delayed = refl
phase_back Released = refl

released_back : (b : Bool) → is_released (phase_of b) ≡ b
released_back true = refl
released_back false = refl

jobs_back : (l : List Job) → map job_in (map placed_job l) ≡ l
jobs_back [] = refl
jobs_back (j ∷ l) = λ i. record { due = j.due; task = j.task; phase = phase_back j.phase i } ∷ jobs_back l i

pub places_back : (l : List HeadJob) → map placed_job (map job_in l) ≡ l
places_back [] = refl
places_back (j ∷ l) = λ i. record { due = j.due; task = j.task; released = released_back j.released i } ∷ places_back l i

pub state_back : (s : State) → state_in (placed s) ≡ s
unfolding placed state_in
state_back s = λ i. record { table = s.table; last = s.last; list = record { jobs = jobs_back s.list.jobs i; count = s.list.count }; monitor = s.monitor }

pub placed_back : (p : HeadState) → placed (state_in p) ≡ p
unfolding placed state_in
placed_back p = λ i. record { table = p.table; last = p.last; jobs = places_back p.jobs i; count = p.count; monitor = p.monitor }

-- ---- an answer

abbrev choice_back : Bool → ℕ → Tick → Choice
choice_back true n t = runs_as n t
choice_back false n t = None

choice_back_lem : (c : Choice) → choice_back (runs_in c) (task_in c) (due_in c) ≡ c
choice_back_lem None = refl
choice_back_lem (Some r) = refl

abbrev call_back : ℕ → ℕ → KernelCall
call_back zero n = NoCall
call_back (suc zero) n = ActivateTask n
call_back (suc (suc zero)) n = ChainTask n
call_back (suc (suc (suc k))) n = TerminateTask

call_back_lem : (c : KernelCall) → call_back (number_of c) (called_of c) ≡ c
call_back_lem NoCall = refl
call_back_lem (ActivateTask n) = refl
call_back_lem (ChainTask n) = refl
call_back_lem TerminateTask = refl

abbrev answer_back : HeadAnswer → Answer
answer_back a = record { result = a.result; running = choice_back a.runs a.task a.due; call = call_back a.call a.called; late = a.late }

pub answer_back_lem : (a : Answer) → answer_back (answer_for a) ≡ a
unfolding answer_for
answer_back_lem a = λ i. record { result = a.result; running = choice_back_lem a.running i; call = call_back_lem a.call i; late = a.late }

pub answers_apart : (a b : Answer) → answer_for a ≡ answer_for b → a ≡ b
answers_apart a b e = sym (answer_back_lem a) ∙ ap answer_back e ∙ answer_back_lem b

-- ---- the check's answer

abbrev named_back : ℕ → ℕ → ℕ → Named
named_back zero i j = NoneNamed
named_back (suc zero) i j = TheLine i
named_back (suc (suc k)) i j = BothLines i j

abbrev verdict_back : HeadVerdict → Verdict
verdict_back v = record { number = v.number; lines = named_back v.named v.first v.second }

verdict_back_lem : (k : ℕ) (l : Named) → verdict_back (verdict_on k l) ≡ record { number = k; lines = l }
verdict_back_lem k NoneNamed = refl
verdict_back_lem k (TheLine i) = refl
verdict_back_lem k (BothLines i j) = refl

pub verdicts_apart : (v w : Verdict) → verdict_for v ≡ verdict_for w → v ≡ w
unfolding verdict_for
verdicts_apart v w e = sym (verdict_back_lem v.number v.lines) ∙ ap verdict_back e ∙ verdict_back_lem w.number w.lines

-- the number stays
pub number_same : (v : Verdict) → (verdict_for v).number ≡ v.number
unfolding verdict_for
number_same v = go v.lines
  where
    go : (l : Named) → (verdict_on v.number l).number ≡ v.number
    go NoneNamed = refl
    go (TheLine i) = refl
    go (BothLines i j) = refl

-- ---- a question's answer

-- a refusal by its number
abbrev refusal_back : ℕ → CallRefusal
refusal_back n = cond (eqb n 2) NoJob (cond (eqb n 3) NoTask (cond (eqb n 4) LimitReached (cond (eqb n 8) BadTick (cond (eqb n 9) DueBeyond NoPlace))))

refusal_back_lem : (k : CallRefusal) → refusal_back (call_number k) ≡ k
refusal_back_lem NoJob = refl
refusal_back_lem NoTask = refl
refusal_back_lem LimitReached = refl
refusal_back_lem BadTick = refl
refusal_back_lem DueBeyond = refl
refusal_back_lem NoPlace = refl

abbrev reason_back : ℕ → HeadWhy → Result Reason CallRefusal
reason_back zero w = Err (refusal_back w.result)
reason_back (suc zero) w = Ok NonePending
reason_back (suc (suc zero)) w = Ok ItRuns
reason_back (suc (suc (suc zero))) w = Ok (Earlier w.task w.due)
reason_back (suc (suc (suc (suc k)))) w = Ok (ThereFirst w.task w.due)

abbrev why_back : HeadWhy → Result Reason CallRefusal
why_back w = reason_back w.reason w

why_back_lem : (w : Result Reason CallRefusal) → why_back (why_for w) ≡ w
why_back_lem (Err k) = ap Err (refusal_back_lem k)
why_back_lem (Ok NonePending) = refl
why_back_lem (Ok ItRuns) = refl
why_back_lem (Ok (Earlier m t)) = refl
why_back_lem (Ok (ThereFirst m t)) = refl

pub whys_apart : (v w : Result Reason CallRefusal) → why_for v ≡ why_for w → v ≡ w
whys_apart v w e = sym (why_back_lem v) ∙ ap why_back e ∙ why_back_lem w
