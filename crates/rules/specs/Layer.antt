-- Document 01, "Ticks and jobs": the layer that delays activations, over the kernel. Assumes nothing.
use Rattle.std.specs.Prelude.{ℕ, ◌-◌, Bool, true, false, cond, ◌&&◌, List, [], ◌∷◌, ◌++◌, map, length, replicate, eqb, None}
use Rattle.std.proofs.Math.Option.{Option, some, none}
use Rattle.rules.specs.declared.Tick.{Tick}
use Rattle.rules.specs.declared.Phase.{Phase}
use Rattle.rules.specs.declared.Phase.TheVariants.{Delayed, Released}
use Rattle.rules.specs.declared.Call.{Call}
use Rattle.rules.specs.declared.Call.TheVariants.{Wait, Activate, Terminate, Chain}
use Rattle.rules.specs.declared.KernelCall.{KernelCall}
use Rattle.rules.specs.declared.KernelCall.TheVariants.{NoCall, ActivateTask, ChainTask, TerminateTask}
use Rattle.rules.specs.declared.Late.{Late}
use Rattle.rules.specs.declared.Answer.{Answer}
use Rattle.rules.specs.Words.{unless, insert_by}
use Rattle.rules.specs.Table.{Table, priority_of}
use Rattle.rules.specs.Jobs.{Job, Pending, accepted, bare, new_job, released, before}
use Rattle.rules.specs.Answers.{Choice, runs_as}
use Rattle.rules.specs.Kernel.{dispatched, kernel}
use Rattle.rules.specs.Calls.{View, tick_of, refusal}
use Rattle.rules.specs.Late.{newly_late, marked_at}

-- ---- the list

-- which of two jobs goes before the other
abbrev pub Order : Type 0
Order = Pending → Pending → Bool

-- a new job goes behind all jobs with an earlier or the same deadline
abbrev pub insert : Order → Job → List Job → List Job
insert goes j l = insert_by (λ a b. goes (bare a) (bare b)) j l

abbrev pub is_first : Order → Pending → List Job → Bool
is_first goes j [] = true
is_first goes j (k ∷ l) = goes j (bare k)

abbrev pub is_released : Phase → Bool
is_released Delayed = false
is_released Released = true

-- is this the released job of task n
abbrev pub is_of : ℕ → Job → Bool
is_of n j = eqb n j.task && is_released j.phase

-- the job that runs, given the task that runs; and the list without it
abbrev pub running_in : Option ℕ → List Job → Option Job
running_in none l = none
running_in (some n) [] = none
running_in (some n) (j ∷ l) = cond (is_of n j) (some j) (running_in (some n) l)

abbrev pub without : Option ℕ → List Job → List Job
without none l = l
without (some n) [] = []
without (some n) (j ∷ l) = cond (is_of n j) l (j ∷ without (some n) l)

-- ---- the calls

-- the list after a call, and the kernel call made
pub record Moved : Type 0 where
  pub jobs : List Job
  pub call : KernelCall

-- activate: insert. If the new job is first, release it by ActivateTask; otherwise no kernel call
abbrev pub entered : Order → Pending → List Job → Bool → Moved
entered goes j l true = record { jobs = insert goes (new_job Released j) l; call = ActivateTask j.task }
entered goes j l false = record { jobs = insert goes (new_job Delayed j) l; call = NoCall }

-- the running job has left. If the new first job is delayed, release it by ChainTask; otherwise TerminateTask
abbrev pub settled_by : Phase → Job → List Job → Moved
settled_by Delayed j l = record { jobs = released j ∷ l; call = ChainTask j.task }
settled_by Released j l = record { jobs = j ∷ l; call = TerminateTask }

abbrev pub settled : List Job → Moved
settled [] = record { jobs = []; call = TerminateTask }
settled (j ∷ l) = settled_by j.phase j l

-- an accepted call: r is the task that runs, `new` makes an accepted activation's job
abbrev pub moved : Order → (Tick → ℕ → Pending) → Option ℕ → List Job → Call → Moved
moved goes new r l (Wait t) = record { jobs = l; call = NoCall }
moved goes new r l (Activate t n) = entered goes (new t n) l (is_first goes (new t n) l)
moved goes new r l (Terminate t) = settled (without r l)
moved goes new r l (Chain t n) = settled (insert goes (new_job Delayed (new t n)) (without r l))

-- ---- the board

-- the last accepted call's tick, the layer's list, and the kernel's ready queue
pub record Board : Type 0 where
  pub last : Tick
  pub jobs : List Job
  pub ready : List ℕ

abbrev pub fresh : Board
fresh = record { last = record { 0 = 0 }; jobs = []; ready = [] }

-- the task that runs
abbrev pub running : Table → Board → Option ℕ
running T b = dispatched (priority_of T) b.ready

-- the job that runs, and how an answer shows it
abbrev pub running_job : Table → Board → Option Job
running_job T b = running_in (running T b) b.jobs

abbrev pub shown : Option Job → Choice
shown none = None
shown (some j) = runs_as j.task j.due

abbrev pub choice : Table → Board → Choice
choice T b = shown (running_job T b)

abbrev pub tasks : List Job → List ℕ
tasks l = map (λ (j : Job). j.task) l

abbrev pub viewed : Table → Board → View
viewed T b =
    record { last = b.last; runs = running T b; pending = tasks b.jobs; others = tasks (without (running T b) b.jobs) }

-- the result number of a call
abbrev pub result : Table → Board → Call → ℕ
result T b e = refusal T (viewed T b) e

-- an accepted call first marks the late jobs as reported
abbrev pub marked : Tick → Board → Board
marked t b = record { last = b.last; jobs = map (marked_at t) b.jobs; ready = b.ready }

-- then it moves the jobs, and the kernel does what it is asked
abbrev pub moves : Table → Board → Call → Moved
moves T b e = moved (before T) (accepted T) (running T b) b.jobs e

abbrev pub after : Table → Board → Call → Moved → Board
after T b e m = record { last = tick_of e; jobs = m.jobs; ready = kernel (running T b) m.call b.ready }

abbrev pub done : Table → Board → Call → Board
done T b e = after T b e (moves T b e)

-- the board after a call; a refused call changes nothing
abbrev pub next : Table → Board → Call → Board
next T b e = unless (result T b e) b (done T (marked (tick_of e) b) e)

-- ---- what a call returns

-- in 32 places, unused places 0
abbrev pub in_places : List ℕ → Late
in_places l = record { count = length l; tasks = l ++ replicate (32 - length l) 0 }

-- the tasks of the newly late jobs, in list order at the start of the call
abbrev pub late_tasks : Table → Board → Call → List ℕ
late_tasks T b e = unless (result T b e) [] (tasks (newly_late (tick_of e) b.jobs))

abbrev pub answer : Table → Board → Call → Answer
answer T b e =
    record {
      result = result T b e;
      running = choice T (next T b e);
      call = unless (result T b e) NoCall (moves T (marked (tick_of e) b) e).call;
      late = in_places (late_tasks T b e);
    }
