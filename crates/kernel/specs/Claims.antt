-- All that is claimed of the dispatcher; proofs/Claims.antt proves it. Assumes nothing.
use Rattle.std.specs.Prelude.{ℕ, zero, suc, ◌≤◌, ◌<◌, ◌≡◌, List, [], ◌∷◌, ◌++◌, map, length}
use Rattle.std.proofs.Math.Option.{Option, some, none}
use Rattle.rules.specs.declared.Job.{Job as Entry}
use Rattle.rules.specs.declared.Phase.TheVariants.{Delayed, Released}
use Rattle.rules.specs.declared.Line.{Line}
use Rattle.rules.specs.declared.Call.{Call}
use Rattle.rules.specs.Answers.{Choice, runs_as}
use Rattle.rules.specs.Words.{All}
use Rattle.rules.specs.Table.{Table}
use Rattle.rules.specs.Jobs.{Job}
use Rattle.rules.specs.Layer.{fresh, running_job}
use Rattle.rules.specs.Run.{run}
use Rattle.jobs.specs.Listed.{view}
use Rattle.table.specs.Lines.{packed}
use Rattle.scheduler.specs.declared.State.{State}
use Rattle.scheduler.specs.State.{kept, Handed, step_of}
use Rattle.std.specs.Prelude.{Some, None}
use Rattle.kernel.specs.Dispatch.{Found, priority_in, dispatch_of}

-- ---- the rule-book's kernel

abbrev pub job_at : ℕ → List Job → Option Job
job_at k [] = none
job_at zero (j ∷ l) = some j
job_at (suc k) (j ∷ l) = job_at k l

-- the job at the place that was found
abbrev pub placed : Found → List Job → Option Job
placed None l = none
placed (Some k) l = job_at k l

-- on any table and after any calls, the job that `dispatch` finds is the one that the rule-book's kernel runs with its own ready queue
abbrev pub DispatchIsKernel : Type 0
DispatchIsKernel =
    (T : Table) (calls : List Call)
    → placed (dispatch_of (packed T.lines).lines (map kept (run T fresh calls).jobs)) (run T fresh calls).jobs
    ≡ running_job T (run T fresh calls)

-- ---- the answers of calls

-- how an answer shows the job at a place, and at the place that was found
abbrev pub choice_at : ℕ → List Entry → Choice
choice_at k [] = None
choice_at zero (x ∷ xs) = runs_as x.task x.due
choice_at (suc k) (x ∷ xs) = choice_at k xs

abbrev pub choice_found : Found → List Entry → Choice
choice_found None xs = None
choice_found (Some k) xs = choice_at k xs

-- the running job that a call's answer names is the one that `dispatch` finds in the state that the call leaves
abbrev pub DispatchIsAnswer : Type 0
DispatchIsAnswer =
    (s : State) → Handed s → (e : Call)
    → choice_found (dispatch_of (step_of s e).state.table.lines (view (step_of s e).state.list)) (view (step_of s e).state.list)
    ≡ (step_of s e).answer.running

-- ---- in words of its own

-- the job at place k is released; no released job in front of it has a higher priority, and every released job behind it has a lower one
pub record Highest (lines : List Line) (xs : List Entry) (k : ℕ) : Type 0 where
  pub front : List Entry
  pub job : Entry
  pub back : List Entry
  pub among : xs ≡ front ++ (job ∷ back)
  pub place : k ≡ length front
  pub is_released_lem : job.phase ≡ Released
  pub in_front_lem : All (λ (x : Entry). x.phase ≡ Released → priority_in lines x ≤ priority_in lines job) front
  pub behind : All (λ (x : Entry). x.phase ≡ Released → priority_in lines x < priority_in lines job) back

-- that job is found; nothing is found where nothing is released
abbrev pub Chosen : List Line → List Entry → Found → Type 0
Chosen lines xs None = All (λ (x : Entry). x.phase ≡ Delayed) xs
Chosen lines xs (Some k) = Highest lines xs k

-- of the released jobs the highest priority is found, and within it the one furthest back in the list, on any lines and any list
abbrev pub DispatchIsHighest : Type 0
DispatchIsHighest = (lines : List Line) (xs : List Entry) → Chosen lines xs (dispatch_of lines xs)

pub record Claims : Type 0 where
  pub dispatch_is_kernel : DispatchIsKernel
  pub dispatch_is_answer : DispatchIsAnswer
  pub dispatch_is_highest : DispatchIsHighest
