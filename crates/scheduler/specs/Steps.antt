-- The parts of a call, over plain lists of jobs as they are kept. No public promise names them. Assumes nothing.
use Rattle.std.specs.Prelude.{ℕ, ◌≤◌, Bool, true, false, cond, List, [], leb, eqb, drop, ⊤, Option, Some, None, Result, Ok, Err}
use Rattle.std.specs.Result.{result_and}
use Rattle.rules.specs.declared.Tick.{Tick}
use Rattle.rules.specs.declared.Job.{Job as Entry}
use Rattle.rules.specs.declared.Line.{Line}
use Rattle.rules.specs.declared.Span.{Span}
use Rattle.rules.specs.declared.Phase.{Phase}
use Rattle.rules.specs.declared.Phase.TheVariants.{Delayed, Released}
use Rattle.rules.specs.declared.KernelCall.{KernelCall}
use Rattle.rules.specs.declared.KernelCall.TheVariants.{NoCall, ActivateTask, ChainTask, TerminateTask}
use Rattle.rules.specs.declared.CallRefusal.{CallRefusal}
use Rattle.rules.specs.declared.CallRefusal.TheVariants.{NoJob, NoTask, LimitReached, BadTick, DueBeyond, NoPlace}
use Rattle.rules.specs.Answers.{Choice, runs_as, phase_of}
use Rattle.rules.specs.declared.Late.{Late}
use Rattle.rules.specs.declared.Reason.{Reason}
use Rattle.rules.specs.declared.Reason.TheVariants.{NonePending, ItRuns, Earlier, ThereFirst}
use Rattle.rules.specs.Calls.{bad_tick}
use Rattle.rules.specs.Counts.{no_tallies, ended_more, on_task, with_late}
use Rattle.ticks.specs.Ticks.{sum, is_beyond, response_by}
use Rattle.table.specs.Lines.{TaskTable}
use Rattle.table.specs.Lines.{line_at}
use Rattle.jobs.specs.declared.JobList.{JobList}
use Rattle.jobs.specs.Listed.{view, pack, is_earlier, is_first_in, insert_due, first_in, release_first, lead_of, pending_of, late_in, newly_late_in}
use Rattle.monitor.specs.declared.Monitor.{Monitor}
use Rattle.monitor.specs.Tallies.{counts, tasks_of}
use Rattle.scheduler.specs.declared.State.{State}
use Rattle.scheduler.specs.declared.Stepped.{Stepped}
use Rattle.scheduler.specs.declared.Activation.{Activation}

-- no job; tick, counts and greatest responses 0
abbrev pub fresh_of : TaskTable → State
fresh_of t = record { table = t; last = record { 0 = 0 }; list = pack []; monitor = counts no_tallies }

-- ---- the refusals

-- an activation of task n, whose line is x: its limit, and when it would be due
abbrev pub asked_by : Line → Tick → ℕ → Activation
asked_by x at n = record { at = at; task = n; limit = x.limit; due = sum at x.deadline }

unfoldable pub asked_of : TaskTable → Tick → ℕ → Activation
asked_of t at n = asked_by (line_at t.lines n) at n

-- a call is allowed, or refused by a row
abbrev pub Allowed : Type 0
Allowed = Result ⊤ CallRefusal

-- refused by this row where its condition holds
abbrev pub refused_if : CallRefusal → Bool → Allowed
refused_if k c = cond c (Err k) (Ok tt)

-- rows 8, 2, 3, 4, 10 and 9
abbrev pub in_time : Tick → Tick → Allowed
in_time last at = refused_if BadTick (bad_tick last at)

abbrev pub some_job : ℕ → Allowed
some_job pending = refused_if NoJob (eqb pending 0)

abbrev pub known : ℕ → ℕ → Allowed
known lines n = refused_if NoTask (leb lines n)

abbrev pub below_limit : ℕ → ℕ → Allowed
below_limit limit pending = refused_if LimitReached (leb limit pending)

abbrev pub some_place : ℕ → Allowed
some_place pending = refused_if NoPlace (leb 32 pending)

abbrev pub in_reach : Tick → Allowed
in_reach due = refused_if DueBeyond (is_beyond due)

-- the rows of activate, terminate and chain: the first that refuses; the first job is the one that ends
abbrev pub activate_refusal : Tick → ℕ → JobList → Activation → Allowed
activate_refusal last lines l new =
    result_and (in_time last new.at)
    (result_and (known lines new.task)
    (result_and (below_limit new.limit (pending_of new.task (drop 0 (view l))))
    (result_and (some_place l.count)
    (in_reach new.due))))

abbrev pub terminate_refusal : Tick → ℕ → Tick → Allowed
terminate_refusal last pending at = result_and (in_time last at) (some_job pending)

abbrev pub chain_refusal : Tick → ℕ → JobList → Activation → Allowed
chain_refusal last lines l new =
    result_and (in_time last new.at)
    (result_and (some_job l.count)
    (result_and (known lines new.task)
    (result_and (below_limit new.limit (pending_of new.task (drop 1 (view l))))
    (in_reach new.due))))

-- ---- what moves

-- the list after an accepted call, and the kernel call made
pub record Change : Type 0 where
  pub list : JobList
  pub call : KernelCall

-- the job that leads runs
abbrev pub choice_of : Option Entry → Choice
choice_of None = None
choice_of (Some x) = runs_as x.task x.due

abbrev pub choice_in : List Entry → Choice
choice_in xs = choice_of (lead_of xs)

-- a new job
abbrev pub job_as : ℕ → Tick → Phase → Entry
job_as n due p = record { due = due; task = n; phase = p }

-- activate: a new job that is first is released, by ActivateTask
abbrev pub entry_call : Bool → ℕ → KernelCall
entry_call true n = ActivateTask n
entry_call false n = NoCall

abbrev pub entered_as : ℕ → Tick → List Entry → Bool → Change
entered_as n due xs f = record { list = pack (insert_due (job_as n due (phase_of f)) xs); call = entry_call f n }

unfoldable pub entered_in : ℕ → Tick → List Entry → Change
entered_in n due xs = entered_as n due xs (is_first_in (job_as n due Delayed) xs)

-- the running job has left: the new first job is released by ChainTask, if it is delayed; otherwise TerminateTask
abbrev pub settle_as : Phase → ℕ → KernelCall
settle_as Delayed n = ChainTask n
settle_as Released n = TerminateTask

abbrev pub settle_of : Option Entry → KernelCall
settle_of None = TerminateTask
settle_of (Some x) = settle_as x.phase x.task

unfoldable pub settled_in : List Entry → Change
settled_in xs = record { list = pack (release_first xs); call = settle_of (lead_of xs) }

-- chain: the new job is inserted, then as for terminate
unfoldable pub chained_in : ℕ → Tick → List Entry → Change
chained_in n due xs = settled_in (insert_due (job_as n due Delayed) xs)

-- ---- why a job waits

-- the first job of task n, and the one that leads, which runs: the reasons in their order
abbrev pub reason_of : ℕ → Option Entry → Option Entry → Reason
reason_of n None r = NonePending
reason_of n (Some a) None = NonePending
reason_of n (Some a) (Some r) =
    cond (eqb n r.task) ItRuns (cond (is_earlier r a) (Earlier r.task r.due) (ThereFirst r.task r.due))

-- ---- what is counted

-- no relative deadline is above the longest
pub record Short (t : TaskTable) : Type 0 where
  pub deadlines : (n : ℕ) → (line_at t.lines n).deadline.0 ≤ 1000000000

-- the response of a job that ends at a tick
unfoldable pub response_in : TaskTable → Entry → Tick → ℕ
response_in t x at = response_by at x.due (line_at t.lines x.task).deadline

-- late jobs are counted
unfoldable pub late_counted : Late → Monitor → Monitor
late_counted l c = counts (with_late (tasks_of l) c.tallies)

-- and then a job of relative deadline d, which ended
abbrev pub ended_more_in : Span → Entry → Tick → Monitor → Monitor
ended_more_in d x at c = counts (on_task x.task (ended_more (response_by at x.due d)) c.tallies)

-- the first job, by the table's line
unfoldable pub tallied_in : TaskTable → List Entry → Tick → Monitor → Monitor
tallied_in t xs at c = counts (on_task (first_in xs).task (ended_more (response_in t (first_in xs) at)) c.tallies)

-- the newly late jobs at tick t
abbrev pub late_of : State → Tick → Late
late_of s t = newly_late_in s.last t (view s.list)

-- time moves to tick t: they are counted; and the first job, if it ends
abbrev pub reported_at : Tick → State → State
reported_at t s = record { table = s.table; last = t; list = s.list; monitor = late_counted (late_of s t) s.monitor }

abbrev pub ended_by : Span → Tick → State → State
ended_by d t s =
    record {
      table = s.table;
      last = t;
      list = s.list;
      monitor = ended_more_in d (first_in (view s.list)) t (late_counted (late_of s t) s.monitor);
    }

abbrev pub ended_at : Tick → State → State
ended_at t s =
    record {
      table = s.table;
      last = t;
      list = s.list;
      monitor = tallied_in s.table (view s.list) t (late_counted (late_of s t) s.monitor);
    }

-- ---- the whole

-- a refused call: number k, the unchanged running job, no kernel call, no late job
unfoldable pub refused_of : State → ℕ → Stepped
refused_of s k =
    record {
      state = s;
      answer = record { result = k; running = choice_in (view s.list); call = NoCall; late = late_in [] };
    }

-- an accepted call, which leaves state s: kernel call c, late jobs l
abbrev pub left_as : State → KernelCall → Late → Stepped
left_as s c l = record { state = s; answer = record { result = 0; running = choice_in (view s.list); call = c; late = l } }

-- late jobs l, counts c, and the list and kernel call of m
unfoldable pub accepted_of : TaskTable → Tick → Late → Monitor → Change → Stepped
accepted_of t at l c m = left_as (record { table = t; last = at; list = m.list; monitor = c }) m.call l
