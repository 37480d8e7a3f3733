-- Document 01, "What a call returns": what is counted per task. Assumes nothing.
use Rattle.std.specs.Prelude.{ℕ, suc, ◌-◌, max, cond, List, [], ◌∷◌, get_or, set, replicate, ltb}
use Rattle.std.proofs.Math.Option.{Option, some, none}
use Rattle.rules.specs.declared.Tick.{Tick}
use Rattle.rules.specs.declared.Call.{Call}
use Rattle.rules.specs.declared.Call.TheVariants.{Wait, Activate, Terminate, Chain}
use Rattle.rules.specs.declared.Tally.{Tally}
use Rattle.rules.specs.Words.{unless}
use Rattle.rules.specs.Table.{Table}
use Rattle.rules.specs.Jobs.{Job, Pending, bare}
use Rattle.rules.specs.Calls.{tick_of}
use Rattle.rules.specs.Layer.{Board, result, running_job, late_tasks}

abbrev pub no_tally : Tally
no_tally = record { late = 0; ended = 0; response = 0 }

-- one for each task number
abbrev pub no_tallies : List Tally
no_tallies = replicate 32 no_tally

-- the two counts stand still at 4,294,967,295
abbrev pub most : ℕ
most = 4294967295

abbrev pub up : ℕ → ℕ
up k = cond (ltb k most) (suc k) k

-- one more late job
abbrev pub late_more : Tally → Tally
late_more c = record { late = up c.late; ended = c.ended; response = c.response }

-- one more ended job, with its response
abbrev pub ended_more : ℕ → Tally → Tally
ended_more r c = record { late = c.late; ended = up c.ended; response = max c.response r }

-- a change of task n's tally
abbrev pub on_task : ℕ → (Tally → Tally) → List Tally → List Tally
on_task n f c = set c n (f (get_or c n no_tally))

abbrev pub with_late : List ℕ → List Tally → List Tally
with_late [] c = c
with_late (n ∷ l) c = with_late l (on_task n late_more c)

-- the response: ending tick less activation tick
abbrev pub response_of : Tick → Pending → ℕ
response_of t j = t.0 - j.since.0

abbrev pub with_ended : Tick → Option Job → List Tally → List Tally
with_ended t none c = c
with_ended t (some j) c = on_task j.task (ended_more (response_of t (bare j))) c

-- the job that an accepted call ends
abbrev pub ending : Table → Board → Call → Option Job
ending T b (Wait t) = none
ending T b (Activate t n) = none
ending T b (Terminate t) = running_job T b
ending T b (Chain t n) = running_job T b

-- the counts after a call
abbrev pub tallied : Table → Board → Call → List Tally → List Tally
tallied T b e c = unless (result T b e) c (with_ended (tick_of e) (ending T b e) (with_late (late_tasks T b e) c))
