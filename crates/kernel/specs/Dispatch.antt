-- Document 01, "Ticks and jobs": of the released jobs the highest priority runs; within one priority the job released first runs. Assumes nothing.
use Rattle.std.specs.Prelude.{ℕ, ◌+◌, Bool, cond, List, [], ◌∷◌, leb, Option, Some, None}
use Rattle.rules.specs.declared.Phase.{Phase}
use Rattle.rules.specs.declared.Phase.TheVariants.{Delayed, Released}
use Rattle.rules.specs.declared.Line.{Line}
use Rattle.rules.specs.declared.Job.{Job as Entry}
use Rattle.table.specs.Lines.{line_at}
use Rattle.kernel.specs.declared.Best.{Best}

-- a place in the list, or none
abbrev pub Found : Type 0
Found = Option ℕ

abbrev pub priority_in : List Line → Entry → ℕ
priority_in lines x = (line_at lines x.task).priority

-- `new` where the job is released, `old` where it is delayed
abbrev pub if_released : Phase → Best → Best → Best
if_released Delayed new old = old
if_released Released new old = new

-- a released job takes over from the best so far if it is at least as high: what stands further back in the list was released earlier (the rule-book's ListHolds)
abbrev pub takes_over : ℕ → ℕ → Bool
takes_over priority top = leb top priority

-- the best so far, after the job x at place i
unfoldable pub better_of : List Line → ℕ → Best → Entry → Best
better_of lines i b x =
    if_released x.phase (cond (takes_over (priority_in lines x) b.top) (record { found = Some i; top = priority_in lines x }) b) b

-- the best of all, b being the best so far and i the place of the next
unfoldable pub best_from : List Line → ℕ → Best → List Entry → Best
best_from lines i b [] = b
best_from lines i b (x ∷ xs) = best_from lines (i + 1) (better_of lines i b x) xs

abbrev pub no_best : Best
no_best = record { found = None; top = 0 }

-- the place of the job that runs
unfoldable pub dispatch_of : List Line → List Entry → Found
dispatch_of lines xs = (best_from lines 0 no_best xs).found
