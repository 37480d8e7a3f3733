-- Q-1, "Why is my task waiting?": why a task's first pending job, in list order, does or does not run. Assumes nothing.
use Rattle.std.specs.Prelude.{ℕ, ◌<◌, ◌≤◌, ◌≡◌, ◌↔◌, Bool, cond, List, [], ◌∷◌, ◌++◌, ltb, eqb, Result, Ok, Err}
use Rattle.std.proofs.Math.Option.{Option, some, none}
use Rattle.rules.specs.declared.Call.{Call}
use Rattle.rules.specs.declared.Reason.{Reason}
use Rattle.rules.specs.declared.Reason.TheVariants.{NonePending, ItRuns, Earlier, ThereFirst}
use Rattle.rules.specs.declared.CallRefusal.{CallRefusal}
use Rattle.rules.specs.declared.CallRefusal.TheVariants.{NoTask}
use Rattle.rules.specs.Words.{◌if◌else◌, All}
use Rattle.rules.specs.Table.{Table, Keeps, size}
use Rattle.rules.specs.Jobs.{Job, key_at}
use Rattle.rules.specs.Answers.{call_number}
use Rattle.rules.specs.Calls.{bad_task}
use Rattle.rules.specs.Layer.{Board, fresh, running_job}
use Rattle.rules.specs.Run.{run}

-- ---- when a reason is true of a board

-- job j is not of task n
abbrev pub NotOf : ℕ → Job → Type 0
NotOf n j = j.task ≡ n → ⊥

-- one of the jobs l is the first of task n: no job in front of it is of that task
pub record FirstOf (n : ℕ) (l : List Job) : Type 0 where
  pub front : List Job
  pub job : Job
  pub back : List Job
  pub among : l ≡ front ++ (job ∷ back)
  pub of_task : job.task ≡ n
  pub first : All (NotOf n) front

-- job j is one of the jobs l
pub record OneOf (j : Job) (l : List Job) : Type 0 where
  pub sooner : List Job
  pub later : List Job
  pub among : l ≡ sooner ++ (j ∷ later)

-- the reasons, and what makes each one true of task n; r is the job that runs, and named by its task and deadline
pub data Fits (T : Table) (b : Board) (n : ℕ) : Reason → Type 0 where
  -- none is pending
  none_pending : All (NotOf n) b.jobs → Fits T b n NonePending
  -- it runs
  it_runs : (a : FirstOf n b.jobs) → running_job T b ≡ some a.job → Fits T b n ItRuns
  -- an earlier deadline is running
  earlier :
      (a : FirstOf n b.jobs) (r : Job) → running_job T b ≡ some r → key_at T r.due < key_at T a.job.due
      → Fits T b n (Earlier r.task r.due)
  -- the same deadline was there first: it runs, and stands in front of the task's first job
  there_first :
      (a : FirstOf n b.jobs) (r : Job) → running_job T b ≡ some r → key_at T r.due ≡ key_at T a.job.due → OneOf r a.front
      → Fits T b n (ThereFirst r.task r.due)

-- ---- the answer

-- the first job of task n, in list order
abbrev pub asked : ℕ → List Job → Option Job
asked n [] = none
asked n (j ∷ l) = cond (eqb n j.task) (some j) (asked n l)

-- an earlier deadline
abbrev pub is_earlier : Table → Job → Job → Bool
is_earlier T j k = ltb (key_at T j.due) (key_at T k.due)

-- a is the first job of task n, r the job that runs; the reasons are tested in this order
unfoldable pub reason : Table → ℕ → Option Job → Option Job → Reason
reason T n none r = NonePending
reason T n (some a) none = NonePending
reason T n (some a) (some r) =
    ItRuns if eqb n r.task
    else Earlier r.task r.due if is_earlier T r a
    else ThereFirst r.task r.due

-- 3 for a task without a line; otherwise the reason
unfoldable pub why : Table → Board → ℕ → Result Reason CallRefusal
why T b n = Err NoTask if bad_task T n else Ok (reason T n (asked n b.jobs) (running_job T b))

-- ---- what is claimed

-- exactly one reason fits, and the answer is it
pub record TheReason (T : Table) (b : Board) (n : ℕ) : Type 0 where
  pub reason : Reason
  pub fits : Fits T b n reason
  pub only : (r : Reason) → Fits T b n r → r ≡ reason
  pub answer : why T b n ≡ Ok reason

-- so it is after any sequence of calls, for every task with a line
abbrev pub WhyTrue : Type 0
WhyTrue = (T : Table) → Keeps T → (calls : List Call) (n : ℕ) → n < size T → TheReason T (run T fresh calls) n

-- 3 is given exactly for a task without a line, and no other number
pub record WhyRefuses (T : Table) (b : Board) (n : ℕ) : Type 0 where
  pub three : (why T b n ≡ Err NoTask) ↔ (size T ≤ n)
  pub no_other : (k : CallRefusal) → why T b n ≡ Err k → call_number k ≡ 3

abbrev pub WhyRefused : Type 0
WhyRefused = (T : Table) (b : Board) (n : ℕ) → WhyRefuses T b n
