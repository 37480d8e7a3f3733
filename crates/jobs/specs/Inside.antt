-- What the functions inside do with the array. No other crate's promise names it. Assumes nothing.
use Rattle.std.specs.Prelude.{ℕ, zero, suc, ◌+◌, ◌-◌, Bool, cond, List, [], ◌∷◌, ◌++◌, ltb, take, drop, set, get_or}
use Rattle.rules.specs.declared.Job.{Job}
use Rattle.rules.specs.declared.Tick.{Tick}
use Rattle.rules.specs.declared.Late.{Late}
use Rattle.rules.specs.Late.{is_past}
use Rattle.jobs.specs.declared.JobList.{JobList}
use Rattle.jobs.specs.Listed.{blank_job, insert_due, released_job}

-- ---- a new job

-- j at its place among the first n jobs; the one place behind them is taken
unfoldable pub enter_at : ℕ → Job → List Job → List Job
enter_at n j xs = insert_due j (take n xs) ++ drop (suc n) xs

-- ---- the first job leaves

-- each of n places takes the next one's job, up to one that stops it; there j is put
unfoldable pub slide : (Job → Bool) → ℕ → Job → List Job → List Job
slide stop n j [] = []
slide stop zero j (x ∷ xs) = j ∷ xs
slide stop (suc n) j (x ∷ []) = j ∷ []
slide stop (suc n) j (x ∷ y ∷ xs) = cond (stop y) (j ∷ y ∷ xs) (y ∷ slide stop n j (y ∷ xs))

-- from place i on, among n jobs
unfoldable pub slide_at : (Job → Bool) → ℕ → Job → ℕ → List Job → List Job
slide_at stop n j i xs = take i xs ++ slide stop (n - (i + 1)) j (drop i xs)

-- the job in the first place is released, where the condition holds
abbrev pub led_if : Bool → List Job → List Job
led_if b xs = cond b (set xs 0 (released_job (get_or xs 0 blank_job))) xs

-- and so in a list of jobs, where there is one
unfoldable pub led : JobList → JobList
led l = record { jobs = led_if (ltb 0 l.count) l.jobs; count = l.count }

-- ---- late jobs

-- a late job: its task goes behind those so far, unless it was late before
unfoldable pub late_step : Tick → Late → Job → Late
late_step last l x = cond (is_past last x.due) l (record { count = l.count + 1; tasks = set l.tasks l.count x.task })
