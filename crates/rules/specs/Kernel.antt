-- Document 01, "Ticks and jobs", the kernel model: a ready queue, the tasks of the released jobs in the order of their release.
-- It knows tasks and their priorities, and nothing of deadlines. Assumes nothing.
use Rattle.std.specs.Prelude.{ℕ, cond, List, [], ◌∷◌, ◌++◌, ltb, eqb}
use Rattle.std.proofs.Math.Option.{Option, some, none}
use Rattle.rules.specs.declared.KernelCall.{KernelCall}
use Rattle.rules.specs.declared.KernelCall.TheVariants.{NoCall, ActivateTask, ChainTask, TerminateTask}

-- n, or what would run of those released after it, only if that is strictly higher. `level` gives a task's priority
abbrev pub higher : (ℕ → ℕ) → ℕ → Option ℕ → ℕ
higher level n none = n
higher level n (some m) = cond (ltb (level n) (level m)) m n

-- the task that runs: the highest priority, and within it the first released
abbrev pub dispatched : (ℕ → ℕ) → List ℕ → Option ℕ
dispatched level [] = none
dispatched level (n ∷ q) = some (higher level n (dispatched level q))

abbrev pub remove : ℕ → List ℕ → List ℕ
remove n [] = []
remove n (m ∷ q) = cond (eqb n m) q (m ∷ remove n q)

-- the queue without the job that ran
abbrev pub dequeued : Option ℕ → List ℕ → List ℕ
dequeued none q = q
dequeued (some n) q = remove n q

-- the queue after a kernel call, r being the task that runs. ChainTask ends the running job, then releases
abbrev pub kernel : Option ℕ → KernelCall → List ℕ → List ℕ
kernel r NoCall q = q
kernel r (ActivateTask n) q = q ++ (n ∷ [])
kernel r (ChainTask n) q = dequeued r q ++ (n ∷ [])
kernel r TerminateTask q = dequeued r q
