-- Document 01, "Ticks and jobs": the list of pending jobs as a plain list. `view` reads it off a JobList, `pack` lays it out in one. Assumes nothing.
use Rattle.std.specs.Prelude.{ℕ, ◌-◌, ◌≤◌, ◌≡◌, Bool, true, false, not, ◌&&◌, cond, List, [], ◌∷◌, ◌++◌, map, length, take, replicate, ltb, eqb, Option, Some, None}
use Rattle.rules.specs.declared.Phase.TheVariants.{Delayed, Released}
use Rattle.rules.specs.declared.Tick.{Tick}
use Rattle.rules.specs.declared.Job.{Job}
use Rattle.rules.specs.declared.Late.{Late}
use Rattle.rules.specs.Words.{places, count_by, only, insert_by, Pairs}
use Rattle.rules.specs.Late.{is_past}
use Rattle.rules.specs.Layer.{in_places}
use Rattle.jobs.specs.declared.JobList.{JobList}

abbrev pub blank_job : Job
blank_job = record { due = record { 0 = 0 }; task = 0; phase = Delayed }

-- ---- how a list is laid out

-- the jobs that are pending
abbrev pub view : JobList → List Job
view l = take l.count l.jobs

-- these jobs, and blanks behind them
unfoldable pub pack : List Job → JobList
pack xs = record { jobs = xs ++ replicate (places - length xs) blank_job; count = length xs }

-- at most 32 jobs, and blanks behind them
pub record Shaped (l : JobList) : Type 0 where
  pub small : l.count ≤ places
  pub blanks : l ≡ pack (view l)

-- ---- the order

-- an earlier deadline
abbrev pub is_earlier : Job → Job → Bool
is_earlier j x = ltb j.due.0 x.due.0

-- a new job goes in front of a job that is due later
abbrev pub goes_before : Job → Job → Bool
goes_before j x = is_earlier j x

-- no job is due before one in front of it
abbrev pub Sorted : List Job → Type 0
Sorted xs = Pairs (λ (x y : Job). goes_before y x ≡ false) xs

-- whether a new job would be first
unfoldable pub is_first_in : Job → List Job → Bool
is_first_in j [] = true
is_first_in j (x ∷ xs) = goes_before j x

-- ---- what changes a list

-- a new job goes behind all jobs with an earlier or the same deadline
unfoldable pub insert_due : Job → List Job → List Job
insert_due j xs = insert_by goes_before j xs

-- the first job is released
abbrev pub released_job : Job → Job
released_job x = record { due = x.due; task = x.task; phase = Released }

unfoldable pub release_first : List Job → List Job
release_first [] = []
release_first (x ∷ xs) = released_job x ∷ xs

-- ---- what is asked of a list

-- a job of task t
abbrev pub is_of : ℕ → Job → Bool
is_of t x = eqb t x.task

-- how many jobs of a task there are
unfoldable pub pending_of : ℕ → List Job → ℕ
pending_of t xs = count_by (is_of t) xs

-- the first job, or a blank one
unfoldable pub first_in : List Job → Job
first_in [] = blank_job
first_in (x ∷ xs) = x

-- the job that leads
abbrev pub lead_of : List Job → Option Job
lead_of [] = None
lead_of (x ∷ xs) = Some x

-- and the one that leads where a new job enters
abbrev pub lead_with : Bool → Job → Option Job → Option Job
lead_with false j x = x
lead_with true j None = Some j
lead_with true j (Some x) = cond (goes_before j x) (Some j) (Some x)

-- ---- newly late jobs

-- late at this tick, and not at the last accepted call's
abbrev pub is_newly_late : Tick → Tick → Job → Bool
is_newly_late last at x = is_past at x.due && not (is_past last x.due)

-- these tasks in 32 places, unused places 0
unfoldable pub late_in : List ℕ → Late
late_in ts = in_places ts

-- the tasks of the newly late jobs, in list order
unfoldable pub newly_late_in : Tick → Tick → List Job → Late
newly_late_in last at xs = late_in (map (λ (x : Job). x.task) (only (is_newly_late last at) xs))
