-- How a state and an answer are kept for C, in structs without enums. Assumes nothing.
use Rattle.std.specs.Prelude.{ℕ, Bool, map, is_some, Some, None, Result, Ok, Err}
use Rattle.rules.specs.declared.Tick.{Tick}
use Rattle.rules.specs.declared.Job.{Job}
use Rattle.rules.specs.declared.KernelCall.{KernelCall}
use Rattle.rules.specs.declared.KernelCall.TheVariants.{NoCall, ActivateTask, ChainTask, TerminateTask}
use Rattle.rules.specs.declared.Named.{Named}
use Rattle.rules.specs.declared.Named.TheVariants.{NoneNamed, TheLine, BothLines}
use Rattle.rules.specs.declared.Answer.{Answer}
use Rattle.rules.specs.declared.Verdict.{Verdict}
use Rattle.rules.specs.declared.Reason.{Reason}
use Rattle.rules.specs.declared.Reason.TheVariants.{NonePending, ItRuns, Earlier, ThereFirst}
use Rattle.rules.specs.declared.CallRefusal.{CallRefusal}
use Rattle.rules.specs.Answers.{Choice, phase_of, call_number}
use Rattle.rules.specs.Layer.{is_released}
use Rattle.scheduler.specs.declared.State.{State}
use Rattle.scheduler.specs.State.{Handed}
use Rattle.head.specs.declared.HeadJob.{HeadJob}
use Rattle.head.specs.declared.HeadState.{HeadState}
use Rattle.head.specs.declared.HeadAnswer.{HeadAnswer}
use Rattle.head.specs.declared.HeadVerdict.{HeadVerdict}
use Rattle.head.specs.declared.HeadWhy.{HeadWhy}

-- ---- the state

-- a job: released, or delayed
abbrev pub placed_job : Job → HeadJob
placed_job j = record { due = j.due; task = j.task; released = is_released j.phase }

abbrev pub job_in : HeadJob → Job
job_in j = record { due = j.due; task = j.task; phase = phase_of j.released }

-- a state as C keeps it
unfoldable pub placed : State → HeadState
placed s = record { table = record { lines = s.table.lines; count = s.table.count }; last = s.last; jobs = map placed_job s.list.jobs; count = s.list.count; monitor = s.monitor }

-- and read back
unfoldable pub state_in : HeadState → State
state_in p = record { table = record { lines = p.table.lines; count = p.table.count }; last = p.last; list = record { jobs = map job_in p.jobs; count = p.count }; monitor = p.monitor }

-- the state was handed out by the check and has since been changed by nothing but calls
abbrev pub HeadHanded : HeadState → Type 0
HeadHanded p = Handed (state_in p)

-- ---- an answer

-- whether a job runs, its task, its deadline
abbrev pub runs_in : Choice → Bool
runs_in c = is_some c

abbrev pub task_in : Choice → ℕ
task_in None = 0
task_in (Some r) = r.task

abbrev pub due_in : Choice → Tick
due_in None = record { 0 = 0 }
due_in (Some r) = r.due

-- the kernel call by its number, and the task that it names
abbrev pub number_of : KernelCall → ℕ
number_of NoCall = 0
number_of (ActivateTask n) = 1
number_of (ChainTask n) = 2
number_of TerminateTask = 3

abbrev pub called_of : KernelCall → ℕ
called_of NoCall = 0
called_of (ActivateTask n) = n
called_of (ChainTask n) = n
called_of TerminateTask = 0

unfoldable pub answer_for : Answer → HeadAnswer
answer_for a =
    record {
      result = a.result;
      runs = runs_in a.running;
      task = task_in a.running;
      due = due_in a.running;
      call = number_of a.call;
      called = called_of a.call;
      late = a.late;
    }

-- ---- the check's answer

-- how many lines are named, and which
abbrev pub verdict_on : ℕ → Named → HeadVerdict
verdict_on k NoneNamed = record { number = k; named = 0; first = 0; second = 0 }
verdict_on k (TheLine i) = record { number = k; named = 1; first = i; second = 0 }
verdict_on k (BothLines i j) = record { number = k; named = 2; first = i; second = j }

unfoldable pub verdict_for : Verdict → HeadVerdict
verdict_for v = verdict_on v.number v.lines

-- ---- the question's answer

-- the reason by its number, and the running job that is named
abbrev pub reason_for : Reason → HeadWhy
reason_for NonePending = record { result = 0; reason = 1; task = 0; due = record { 0 = 0 } }
reason_for ItRuns = record { result = 0; reason = 2; task = 0; due = record { 0 = 0 } }
reason_for (Earlier m t) = record { result = 0; reason = 3; task = m; due = t }
reason_for (ThereFirst m t) = record { result = 0; reason = 4; task = m; due = t }

-- or the refusal's number
abbrev pub why_for : Result Reason CallRefusal → HeadWhy
why_for (Ok r) = reason_for r
why_for (Err k) = record { result = call_number k; reason = 0; task = 0; due = record { 0 = 0 } }
