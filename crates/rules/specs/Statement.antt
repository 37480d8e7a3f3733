-- What is claimed of the rules. Each claim is a type; specs/Claims.antt gathers them. Assumes nothing.
use Rattle.std.specs.Prelude.{ℕ, ◌+◌, ◌<◌, ◌≤◌, min, ◌≡◌, ◌↔◌, ◌⊎◌, Bool, ◌&&◌, List, [], ◌∷◌, ◌++◌, map, length, get_or, eqb, None}
use Rattle.std.proofs.Math.Option.{Option, some, none}
use Rattle.rules.specs.declared.Tick.{Tick}
use Rattle.rules.specs.declared.Phase.{Phase}
use Rattle.rules.specs.declared.Phase.TheVariants.{Delayed, Released}
use Rattle.rules.specs.declared.Call.{Call}
use Rattle.rules.specs.declared.Call.TheVariants.{Wait, Activate, Terminate, Chain}
use Rattle.rules.specs.declared.KernelCall.{KernelCall}
use Rattle.rules.specs.declared.KernelCall.TheVariants.{NoCall, ActivateTask, ChainTask, TerminateTask}
use Rattle.rules.specs.declared.Late.{Late}
use Rattle.rules.specs.declared.Answer.{Answer}
use Rattle.rules.specs.declared.Named.TheVariants.{NoneNamed, TheLine, BothLines}
use Rattle.rules.specs.declared.Verdict.{Verdict}
use Rattle.rules.specs.declared.Tally.{Tally}
use Rattle.rules.specs.Words.{Within, count_by, count, only, last_or, All, Pairs}
use Rattle.rules.specs.Table.{Table, size, line_of, deadline_of, priority_of, limit_of, limits, plus, DeadlineInRange, LimitInRange, InRange, Passes, Keeps, verdict, check}
use Rattle.rules.specs.Jobs.{Job, Pending, bare, Before}
use Rattle.rules.specs.Answers.{runs_as}
use Rattle.rules.specs.Kernel.{dispatched, dequeued, kernel}
use Rattle.rules.specs.Calls.{View}
use Rattle.rules.specs.Late.{is_past, is_late, newly_late, falls_late}
use Rattle.rules.specs.Layer.{Board, is_released, without, tasks, running, running_job, fresh, next, result, choice, answer, in_places}
use Rattle.rules.specs.Counts.{no_tally}
use Rattle.rules.specs.Plain.{Plain, start, plain_run, plain_next, plain_choice, plain_runs, plain_tasks, plain_others, plain_result}
use Rattle.rules.specs.Run.{run, answers, Head, fresh_head, head_next, head_run}
use Rattle.rules.specs.History.{started_by, releases, job_of, acceptances, Ended, endings, ended_of, greatest_of, reported_by, reports, ticks}

-- ==== demand 3

-- the kernel and the plain scheduler side by side: the same job runs, none exactly when nothing is pending; both have the same last accepted tick and the same pending jobs (as many pass any test), and give every next call the same result
pub record Agree (T : Table) (b : Board) (p : Plain) : Type 0 where
  pub same : choice T b ≡ plain_choice T p.pending
  pub idle : (choice T b ≡ None) ↔ (b.jobs ≡ [])
  pub tick : b.last ≡ p.last
  pub jobs : (test : Pending → Bool) → count_by test (map bare b.jobs) ≡ count_by test p.pending
  pub results : (e : Call) → result T b e ≡ plain_result T p e

-- on a table that passes checks 1 to 4 and keeps the rule: after each call of any sequence from a fresh start, refused calls included
abbrev pub Demand3 : Type 0
Demand3 = (T : Table) → Keeps T → (calls : List Call) → Agree T (run T fresh calls) (plain_run T start calls)

-- and so each answer: the plain scheduler's result, and the job that it runs after the call
pub record Answers (T : Table) (b : Board) (p : Plain) (e : Call) : Type 0 where
  pub result : (answer T b e).result ≡ plain_result T p e
  pub running : (answer T b e).running ≡ plain_choice T (plain_next T p e).pending

abbrev pub Demand3Answers : Type 0
Demand3Answers = (T : Table) → Keeps T → (calls : List Call) (e : Call) → Answers T (run T fresh calls) (plain_run T start calls) e

-- tasks i and j of a table that passes checks 1 to 4 break the rule, i being the shorter
pub record Broken (T : Table) (i j : ℕ) : Type 0 where
  pub passes : Passes T
  pub short : i < size T
  pub long : j < size T
  pub shorter : (deadline_of T i).0 < (deadline_of T j).0
  pub not_higher : priority_of T i ≤ priority_of T j

-- the two calls: the longer task, then the shorter, both at tick 0
abbrev pub part_at : Table → ℕ → ℕ → Tick
part_at T i j = record { 0 = 0 }

abbrev pub parting : Table → ℕ → ℕ → List Call
parting T i j = Activate (part_at T i j) j ∷ Activate (part_at T i j) i ∷ []

-- both are accepted; after them the kernel runs the longer, the plain scheduler the shorter
pub record Part (T : Table) (i j : ℕ) : Type 0 where
  pub accepted : map (λ (a : Answer). a.result) (answers T fresh (parting T i j)) ≡ 0 ∷ 0 ∷ []
  pub kernel : choice T (run T fresh (parting T i j)) ≡ runs_as j (plus (part_at T i j) (deadline_of T j))
  pub plain : plain_choice T (plain_run T start (parting T i j)).pending ≡ runs_as i (plus (part_at T i j) (deadline_of T i))
  pub apart : choice T (run T fresh (parting T i j)) ≡ plain_choice T (plain_run T start (parting T i j)).pending → ⊥

-- so it is for every breaking pair; and the check gives 5
abbrev pub Demand3Broken : Type 0
Demand3Broken = (T : Table) (i j : ℕ) → Broken T i j → Part T i j × ((check T).number ≡ 5)

-- ==== the two schedulers are what their names say

-- one of the pending jobs p runs, the last accepted standing first: those accepted after it are due no earlier, those accepted before it are due later
pub record Edf (T : Table) (p : List Pending) : Type 0 where
  pub newer : List Pending
  pub job : Pending
  pub older : List Pending
  pub among : p ≡ newer ++ (job ∷ older)
  pub earliest : All (λ (j : Pending). job.due.0 ≤ j.due.0) newer
  pub first : All (λ (j : Pending). job.due.0 < j.due.0) older
  pub runs : plain_choice T p ≡ runs_as job.task job.due
  pub of_task : plain_runs T p ≡ some job.task
  pub others : plain_others T p ≡ newer ++ older

-- the plain scheduler runs the earliest deadline, the first accepted on equal ones; nothing where nothing is pending
abbrev pub PlainIsEdf : Type 0
PlainIsEdf = (T : Table) (p : List Pending) → ((p ≡ []) × (plain_choice T p ≡ None)) ⊎ (Edf T p)

-- one of the ready queue q runs: those released before it have lower priorities, those released after it none higher
pub record Highest (level : ℕ → ℕ) (q : List ℕ) : Type 0 where
  pub sooner : List ℕ
  pub task : ℕ
  pub later : List ℕ
  pub among : q ≡ sooner ++ (task ∷ later)
  pub first : All (λ n. level n < level task) sooner
  pub highest : All (λ n. level n ≤ level task) later
  pub runs : dispatched level q ≡ some task
  pub others : dequeued (dispatched level q) q ≡ sooner ++ later

-- the kernel runs the highest priority, the first released on equal ones; nothing where nothing is released
abbrev pub KernelIsPriority : Type 0
KernelIsPriority = (level : ℕ → ℕ) (q : List ℕ) → ((q ≡ []) × (dispatched level q ≡ none)) ⊎ (Highest level q)

-- a job of task n is in the ready queue q, and none released before it has its priority
pub record Oldest (level : ℕ → ℕ) (n : ℕ) (q : List ℕ) : Type 0 where
  pub sooner : List ℕ
  pub later : List ℕ
  pub among : q ≡ sooner ++ (n ∷ later)
  pub oldest : All (λ m. level m ≡ level n → ⊥) sooner

-- what runs is the oldest of its level; it stays so when others are released, and whatever the kernel is asked while another runs
pub record StaysOldest (level : ℕ → ℕ) (n : ℕ) (q : List ℕ) : Type 0 where
  pub runs : dispatched level q ≡ some n → Oldest level n q
  pub released : Oldest level n q → (r : Option ℕ) (m : ℕ) → Oldest level n (kernel r (ActivateTask m) q)
  pub waits : Oldest level n q → (r : Option ℕ) (k : KernelCall) → (r ≡ some n → ⊥) → Oldest level n (kernel r k q)

-- so a preempted job is the oldest of its level
abbrev pub PreemptedOldest : Type 0
PreemptedOldest = (level : ℕ → ℕ) (n : ℕ) (q : List ℕ) → StaysOldest level n q

-- ChainTask ends the running job, then releases
abbrev pub ChainIsBoth : Type 0
ChainIsBoth = (r : Option ℕ) (n : ℕ) (q : List ℕ) → kernel r (ChainTask n) q ≡ kernel none (ActivateTask n) (kernel r TerminateTask q)

-- ==== the check

-- two lines break the rule, one way or the other
abbrev pub Breaks : Table → ℕ → ℕ → Type 0
Breaks T i j = ((deadline_of T i).0 < (deadline_of T j).0) × (priority_of T i ≤ priority_of T j)

abbrev pub Clash : Table → ℕ → ℕ → Type 0
Clash T i j = Breaks T i j ⊎ Breaks T j i

-- the pair m, n comes before the pair i, j: lowest first line, then lowest second
abbrev pub Sooner : ℕ → ℕ → ℕ → ℕ → Type 0
Sooner m n i j = (m < i) ⊎ ((m ≡ i) × (n < j))

-- check 1 passes, i is a line, and the lines before it are in range
pub record UpTo (T : Table) (i : ℕ) : Type 0 where
  pub counted : Within 1 32 (size T)
  pub line : i < size T
  pub before : (n : ℕ) → n < i → InRange (line_of T n)

-- i and j are the first pair that breaks the rule, the first below the second
pub record FirstClash (T : Table) (i j : ℕ) : Type 0 where
  pub below : i < j
  pub line : j < size T
  pub clash : Clash T i j
  pub none_sooner : (m n : ℕ) → m < n → n < size T → Sooner m n i j → Clash T m n → ⊥

-- each answer of the check, with its condition
pub data Found (T : Table) : Verdict → Type 0 where
  row_1 : (Within 1 32 (size T) → ⊥) → Found T (verdict 1 NoneNamed)
  row_2 : (i : ℕ) → UpTo T i → (DeadlineInRange (line_of T i) → ⊥) → Found T (verdict 2 (TheLine i))
  row_3 : (i : ℕ) → UpTo T i → DeadlineInRange (line_of T i) → (LimitInRange (line_of T i) → ⊥) → Found T (verdict 3 (TheLine i))
  row_4 : Within 1 32 (size T) → ((n : ℕ) → n < size T → InRange (line_of T n)) → 32 < limits T.lines → Found T (verdict 4 NoneNamed)
  row_5 : (i j : ℕ) → Passes T → FirstClash T i j → Found T (verdict 5 (BothLines i j))
  row_0 : Keeps T → Found T (verdict 0 NoneNamed)

-- it is given exactly then
abbrev pub CheckExact : Type 0
CheckExact = (T : Table) (v : Verdict) → (check T ≡ v) ↔ (Found T v)

-- ==== the refusals of calls

infix 90 ◌when◌
-- a row of the document's table
pub record Row : Type 1 where
  pub number : ℕ
  pub condition : Type 0

abbrev pub ◌when◌ : ℕ → Type 0 → Row
◌when◌ k c = record { number = k; condition = c }

abbrev pub BadTick : Tick → Tick → Type 0
BadTick last t = (t.0 < last.0) ⊎ (4611686018427387903 < t.0)

abbrev pub NothingRuns : Option ℕ → Type 0
NothingRuns r = r ≡ none

abbrev pub NoLine : Table → ℕ → Type 0
NoLine T n = size T ≤ n

abbrev pub AtLimit : Table → ℕ → List ℕ → Type 0
AtLimit T n l = limit_of T n ≤ count n l

abbrev pub NoRoom : List ℕ → Type 0
NoRoom l = 32 ≤ length l

abbrev pub OutOfReach : Table → Tick → ℕ → Type 0
OutOfReach T t n = 4611686018427387903 < t.0 + (deadline_of T n).0

-- the rows of each kind of call, in their order
abbrev pub rows : Table → View → Call → List Row
rows T v (Wait t) = 8 when BadTick v.last t ∷ []
rows T v (Activate t n) =
    8 when BadTick v.last t
    ∷ 3 when NoLine T n
    ∷ 4 when AtLimit T n v.pending
    ∷ 10 when NoRoom v.pending
    ∷ 9 when OutOfReach T t n
    ∷ []
rows T v (Terminate t) = 8 when BadTick v.last t ∷ 2 when NothingRuns v.runs ∷ []
rows T v (Chain t n) =
    8 when BadTick v.last t
    ∷ 2 when NothingRuns v.runs
    ∷ 3 when NoLine T n
    ∷ 4 when AtLimit T n v.others
    ∷ 9 when OutOfReach T t n
    ∷ []

-- each row's number is given exactly when its condition holds and no earlier row applies (`none_yet`); 0 exactly when none applies
abbrev pub Exact : List Row → Type 0 → ℕ → Type 0
Exact [] none_yet k = (k ≡ 0) ↔ none_yet
Exact (r ∷ rs) none_yet k = ((k ≡ r.number) ↔ (none_yet × r.condition)) × Exact rs (none_yet × (r.condition → ⊥)) k

-- of the layer: its last accepted tick, the task that runs, the tasks pending, and those without the job that runs
abbrev pub RefusalsExact : Type 0
RefusalsExact =
    (T : Table) (b : Board) (e : Call)
    → Exact
    (rows T (record { last = b.last; runs = running T b; pending = tasks b.jobs; others = tasks (without (running T b) b.jobs) }) e)
    (Unit {0}) (result T b e)

-- of the plain scheduler likewise
abbrev pub PlainRefusalsExact : Type 0
PlainRefusalsExact =
    (T : Table) (p : Plain) (e : Call)
    → Exact
    (rows T (record { last = p.last; runs = plain_runs T p.pending; pending = plain_tasks p.pending; others = plain_tasks (plain_others T p.pending) }) e)
    (Unit {0}) (plain_result T p e)

-- the last accepted call's tick, 0 before the first
abbrev pub LastAccepted : Type 0
LastAccepted = (T : Table) (calls : List Call) → (run T fresh calls).last ≡ last_or (record { 0 = 0 }) (ticks T calls)

-- a refused call changes nothing, and reports the unchanged running job, no kernel call and no late job
pub record Unchanged (T : Table) (h : Head) (e : Call) : Type 0 where
  pub state : head_next T h e ≡ h
  pub returns : answer T h.board e ≡ record { result = result T h.board e; running = choice T h.board; call = NoCall; late = in_places [] }

abbrev pub RefusedUnchanged : Type 0
RefusedUnchanged = (T : Table) (h : Head) (e : Call) → (result T h.board e ≡ 0 → ⊥) → Unchanged T h e

-- 10 never arises from a table that passes checks 1 to 4
abbrev pub NoTen : Type 0
NoTen = (T : Table) → Passes T → (calls : List Call) (e : Call) → result T (run T fresh calls) e ≡ 10 → ⊥

-- ==== the list and its releases, on any table but where it is said

-- task n behind q, if its job is released
abbrev pub pushed : Phase → ℕ → List ℕ → List ℕ
pushed Delayed n q = q
pushed Released n q = q ++ (n ∷ [])

-- the tasks of the released jobs, from the back of the list to its front
abbrev pub released_of : List Job → List ℕ
released_of [] = []
released_of (j ∷ l) = pushed j.phase j.task (released_of l)

abbrev pub FirstReleased : List Job → Type 0
FirstReleased [] = Unit {0}
FirstReleased (j ∷ l) = j.phase ≡ Released

-- every job is due its D after its activation; the list is in order; its first job is released; the ready queue is the released jobs from back to front; of a task at most one is released
pub record Listed (T : Table) (b : Board) : Type 0 where
  pub dues : All (λ (j : Job). j.due.0 ≡ j.since.0 + (deadline_of T j.task).0) b.jobs
  pub ordered : Pairs (λ (j k : Job). Before T (bare k) (bare j) → ⊥) b.jobs
  pub first : FirstReleased b.jobs
  pub queue : b.ready ≡ released_of b.jobs
  pub one_each : Pairs (λ (j k : Job). j.phase ≡ Released → k.phase ≡ Released → j.task ≡ k.task → ⊥) b.jobs

abbrev pub ListHolds : Type 0
ListHolds = (T : Table) (calls : List Call) → Listed T (run T fresh calls)

-- a released job of the list runs, and leaves the list when it ends
pub record Running (T : Table) (b : Board) : Type 0 where
  pub front : List Job
  pub job : Job
  pub back : List Job
  pub among : b.jobs ≡ front ++ (job ∷ back)
  pub is_released_lem : job.phase ≡ Released
  pub of_task : running T b ≡ some job.task
  pub runs : running_job T b ≡ some job
  pub others : without (running T b) b.jobs ≡ front ++ back

-- nothing is pending and nothing runs, or a released job runs
abbrev pub RunsReleased : Type 0
RunsReleased =
    (T : Table) (calls : List Call)
    → (((run T fresh calls).jobs ≡ []) × (running_job T (run T fresh calls) ≡ none)) ⊎ (Running T (run T fresh calls))

-- m is the list l with a new job j: behind all that it does not go before, in front of all that it goes before
pub record Inserted (T : Table) (j : Pending) (l m : List Pending) : Type 0 where
  pub front : List Pending
  pub back : List Pending
  pub was : l ≡ front ++ back
  pub is : m ≡ front ++ (j ∷ back)
  pub behind : All (λ (k : Pending). Before T j k → ⊥) front
  pub ahead : All (λ (k : Pending). Before T j k) back

-- the list after an accepted call
abbrev pub ListAfter : Table → Board → Call → List Pending → Type 0
ListAfter T b (Wait t) m = m ≡ map bare b.jobs
ListAfter T b (Activate t n) m = Inserted T (job_of T t n) (map bare b.jobs) m
ListAfter T b (Terminate t) m = m ≡ map bare (without (running T b) b.jobs)
ListAfter T b (Chain t n) m = Inserted T (job_of T t n) (map bare (without (running T b) b.jobs)) m

abbrev pub ListMoves : Type 0
ListMoves =
    (T : Table) (calls : List Call) (e : Call) → result T (run T fresh calls) e ≡ 0
    → ListAfter T (run T fresh calls) e (map bare (next T (run T fresh calls) e).jobs)

-- `this` where the condition holds, otherwise `that`
abbrev pub If : Type 0 → Type 0 → Type 0 → Type 0
If condition this that = (condition × this) ⊎ ((condition → ⊥) × that)

-- job j would be the first of the list l: it goes before all of them
abbrev pub IsFirst : Table → Pending → List Job → Type 0
IsFirst T j l = All (λ (k : Job). Before T j (bare k)) l

-- the running job has left, these jobs are pending. If the first is delayed, ChainTask; otherwise (released, or none) TerminateTask
abbrev pub Settles : List Job → KernelCall → Type 0
Settles [] k = k ≡ TerminateTask
Settles (j ∷ l) k = If (j.phase ≡ Delayed) (k ≡ ChainTask j.task) (k ≡ TerminateTask)

-- the kernel call k of an accepted call, exactly. Activate: if the new job is first, ActivateTask; otherwise none. Chain: its job is inserted delayed, then as for terminate
abbrev pub CallIs : Table → Board → Call → KernelCall → Type 0
CallIs T b (Wait t) k = k ≡ NoCall
CallIs T b (Activate t n) k = If (IsFirst T (job_of T t n) b.jobs) (k ≡ ActivateTask n) (k ≡ NoCall)
CallIs T b (Terminate t) k = Settles (without (running T b) b.jobs) k
CallIs T b (Chain t n) k =
    If (IsFirst T (job_of T t n) (without (running T b) b.jobs)) (k ≡ ChainTask n) (Settles (without (running T b) b.jobs) k)

abbrev pub CallsExact : Type 0
CallsExact =
    (T : Table) (calls : List Call) (e : Call) → result T (run T fresh calls) e ≡ 0
    → CallIs T (run T fresh calls) e (answer T (run T fresh calls) e).call

-- the task of the first job
abbrev pub first_task : List Job → Option ℕ
first_task [] = none
first_task (j ∷ l) = some j.task

-- the kernel call returned is the one that was made, and it starts the first job of the list or none
pub record CallMade (T : Table) (b : Board) (e : Call) : Type 0 where
  pub made : (next T b e).ready ≡ kernel (running T b) (answer T b e).call b.ready
  pub starts_first : All (λ n. first_task (next T b e).jobs ≡ some n) (started_by T b e)

abbrev pub CallsMade : Type 0
CallsMade = (T : Table) (b : Board) (e : Call) → CallMade T b e

-- a job is released by exactly one kernel call: of the jobs that pass any test, as many were released by kernel calls as ended and are released now. Nothing starts twice, nothing released vanishes
abbrev pub ReleasedOnce : Type 0
ReleasedOnce =
    (T : Table) (calls : List Call) (test : Pending → Bool)
    → count_by test (releases T calls)
    ≡ count_by (λ (x : Ended). test x.job) (endings T calls)
    + count_by (λ (j : Job). is_released j.phase && test (bare j)) (run T fresh calls).jobs

-- a call may be refused by number, it may not vanish: of the jobs that pass any test, as many were accepted as ended and are pending now
abbrev pub NothingVanishes : Type 0
NothingVanishes =
    (T : Table) (calls : List Call) (test : Pending → Bool)
    → count_by test (acceptances T calls)
    ≡ count_by (λ (x : Ended). test x.job) (endings T calls) + count_by test (map bare (run T fresh calls).jobs)

-- two released jobs never share a priority, on a table that passes checks 1 to 4 and keeps the rule
abbrev pub ApartPriorities : Type 0
ApartPriorities =
    (T : Table) → Keeps T → (calls : List Call)
    → Pairs (λ (j k : Job). j.phase ≡ Released → k.phase ≡ Released → priority_of T j.task ≡ priority_of T k.task → ⊥)
    (run T fresh calls).jobs

-- ==== late jobs and counts

-- every late job is reported once and no other, on a table that passes checks 1 to 4: of the jobs that pass any test, as many were reported as ended late and are pending late: by the ending call's tick, and by the last accepted call's
abbrev pub LateOnce : Type 0
LateOnce =
    (T : Table) → Passes T → (calls : List Call) (test : Pending → Bool)
    → count_by test (reports T calls)
    ≡ count_by (λ (x : Ended). is_past x.tick x.job.due && test x.job) (endings T calls)
    + count_by (λ (j : Job). is_late (run T fresh calls).last j && test (bare j)) (run T fresh calls).jobs

-- each accepted job is reported at most once, on any table
abbrev pub ReportedOnce : Type 0
ReportedOnce =
    (T : Table) (calls : List Call) (test : Pending → Bool)
    → count_by test (reports T calls) ≤ count_by test (acceptances T calls)

-- at the first such call: newly late are those whose deadline is above the last accepted call's tick and not above this one's. So no mark need be kept
abbrev pub LateNeedsNoMark : Type 0
LateNeedsNoMark =
    (T : Table) → Passes T → (calls : List Call) (t : Tick)
    → newly_late t (run T fresh calls).jobs ≡ only (falls_late (run T fresh calls).last t) (run T fresh calls).jobs

-- count and task numbers of the jobs l, in 32 places, unused places 0
pub record Places (l : List Pending) (late : Late) : Type 0 where
  pub counted : late.count ≡ length l
  pub unused : List ℕ
  pub placed : late.tasks ≡ map (λ (j : Pending). j.task) l ++ unused
  pub zeros : All (λ n. n ≡ 0) unused
  pub in_all : length late.tasks ≡ 32

-- so an answer has the newly late jobs
abbrev pub PlacesSuffice : Type 0
PlacesSuffice = (T : Table) → Passes T → (calls : List Call) (e : Call) → Places (reported_by T (run T fresh calls) e) (answer T (run T fresh calls) e).late

-- what the accepted calls of a sequence add up to, for task n
abbrev pub added_up : Table → List Call → ℕ → Tally
added_up T calls n =
    record {
      late = min (count_by (λ (j : Pending). eqb n j.task) (reports T calls)) 4294967295;
      ended = min (ended_of n (endings T calls)) 4294967295;
      response = greatest_of n (endings T calls);
    }

-- the counts follow from the accepted calls, on any table
abbrev pub CountsAddUp : Type 0
CountsAddUp = (T : Table) (calls : List Call) (n : ℕ) → n < 32 → get_or (head_run T fresh_head calls).tallies n no_tally ≡ added_up T calls n
