-- What the calls of a sequence did, from a fresh start on: tasks started, jobs released, accepted, ended and reported. Assumes nothing.
use Rattle.std.specs.Prelude.{ℕ, ◌+◌, ◌-◌, max, cond, List, [], ◌∷◌, ◌++◌, map, eqb}
use Rattle.std.proofs.Math.Option.{Option, some, none}
use Rattle.rules.specs.declared.Tick.{Tick}
use Rattle.rules.specs.declared.Call.{Call}
use Rattle.rules.specs.declared.Call.TheVariants.{Wait, Activate, Terminate, Chain}
use Rattle.rules.specs.declared.KernelCall.{KernelCall}
use Rattle.rules.specs.declared.KernelCall.TheVariants.{NoCall, ActivateTask, ChainTask, TerminateTask}
use Rattle.rules.specs.Words.{unless, count_by}
use Rattle.rules.specs.Table.{Table, deadline_of}
use Rattle.rules.specs.Jobs.{Job, Pending, bare}
use Rattle.rules.specs.Calls.{tick_of}
use Rattle.rules.specs.Late.{newly_late}
use Rattle.rules.specs.Layer.{Board, fresh, next, result, answer}
use Rattle.rules.specs.Counts.{ending}

-- what each call did, one behind the other
abbrev pub along {ℓ} : {A : Type ℓ} → Table → (Board → Call → List A) → Board → List Call → List A
along T did b [] = []
along T did b (e ∷ es) = did b e ++ along T did (next T b e) es

-- a refused call did nothing
abbrev pub if_accepted {ℓ} : {A : Type ℓ} → Table → Board → Call → List A → List A
if_accepted T b e l = unless (result T b e) [] l

-- the tasks that the kernel calls started
abbrev pub starts : KernelCall → List ℕ
starts NoCall = []
starts (ActivateTask n) = n ∷ []
starts (ChainTask n) = n ∷ []
starts TerminateTask = []

abbrev pub started_by : Table → Board → Call → List ℕ
started_by T b e = starts (answer T b e).call

-- the jobs that they released: the one that a call started is the first of the list that it left
abbrev pub first_if : List ℕ → List Job → List Pending
first_if [] l = []
first_if (n ∷ q) [] = []
first_if (n ∷ q) (j ∷ l) = bare j ∷ []

abbrev pub released_by : Table → Board → Call → List Pending
released_by T b e = first_if (started_by T b e) (next T b e).jobs

abbrev pub releases : Table → List Call → List Pending
releases T calls = along T (released_by T) fresh calls

-- the jobs that accepted calls made: due at t + D
abbrev pub job_of : Table → Tick → ℕ → Pending
job_of T t n = record { task = n; since = t; due = record { 0 = t.0 + (deadline_of T n).0 } }

abbrev pub makes : (Tick → ℕ → Pending) → Call → List Pending
makes new (Wait t) = []
makes new (Activate t n) = new t n ∷ []
makes new (Terminate t) = []
makes new (Chain t n) = new t n ∷ []

abbrev pub accepted_by : Table → Board → Call → List Pending
accepted_by T b e = if_accepted T b e (makes (job_of T) e)

abbrev pub acceptances : Table → List Call → List Pending
acceptances T calls = along T (accepted_by T) fresh calls

-- the jobs that they ended, each with the ending tick
pub record Ended : Type 0 where
  pub job : Pending
  pub tick : Tick

abbrev pub ended_at : Tick → Option Job → List Ended
ended_at t none = []
ended_at t (some j) = record { job = bare j; tick = t } ∷ []

abbrev pub ended_by : Table → Board → Call → List Ended
ended_by T b e = if_accepted T b e (ended_at (tick_of e) (ending T b e))

abbrev pub endings : Table → List Call → List Ended
endings T calls = along T (ended_by T) fresh calls

-- how many of them are of task n, and the greatest response: ending tick less activation tick
abbrev pub ended_of : ℕ → List Ended → ℕ
ended_of n l = count_by (λ (x : Ended). eqb n x.job.task) l

abbrev pub greatest_of : ℕ → List Ended → ℕ
greatest_of n [] = 0
greatest_of n (x ∷ l) = cond (eqb n x.job.task) (max (x.tick.0 - x.job.since.0) (greatest_of n l)) (greatest_of n l)

-- the jobs that they reported as late
abbrev pub reported_by : Table → Board → Call → List Pending
reported_by T b e = if_accepted T b e (map bare (newly_late (tick_of e) b.jobs))

abbrev pub reports : Table → List Call → List Pending
reports T calls = along T (reported_by T) fresh calls

-- their ticks
abbrev pub ticks : Table → List Call → List Tick
ticks T calls = along T (λ b e. if_accepted T b e (tick_of e ∷ [])) fresh calls
