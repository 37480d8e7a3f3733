-- Document 01, "Ticks and jobs", the plain scheduler of demand 3: no priorities, no delayed state, no kernel calls. Assumes nothing.
use Rattle.std.specs.Prelude.{ℕ, cond, List, [], ◌∷◌, map, None}
use Rattle.std.proofs.Math.Option.{Option, some, none}
use Rattle.rules.specs.declared.Tick.{Tick}
use Rattle.rules.specs.declared.Call.{Call}
use Rattle.rules.specs.declared.Call.TheVariants.{Wait, Activate, Terminate, Chain}
use Rattle.rules.specs.Words.{unless}
use Rattle.rules.specs.Table.{Table}
use Rattle.rules.specs.Jobs.{Pending, accepted, before}
use Rattle.rules.specs.Answers.{Choice, runs_as}
use Rattle.rules.specs.Calls.{View, tick_of, refusal}

-- the last accepted call's tick, and the pending jobs, the last accepted first
pub record Plain : Type 0 where
  pub last : Tick
  pub pending : List Pending

abbrev pub start : Plain
start = record { last = record { 0 = 0 }; pending = [] }

-- of j and the jobs accepted before it, the one that runs: j only if it goes before the one that would run without it
abbrev pub earliest : Table → Pending → List Pending → Pending
earliest T j [] = j
earliest T j (k ∷ p) = cond (before T j (earliest T k p)) j (earliest T k p)

-- the same jobs without that one
abbrev pub rest : Table → Pending → List Pending → List Pending
rest T j [] = []
rest T j (k ∷ p) = cond (before T j (earliest T k p)) (k ∷ p) (j ∷ rest T k p)

-- what runs; its task; and the jobs without it
abbrev pub plain_choice : Table → List Pending → Choice
plain_choice T [] = None
plain_choice T (j ∷ p) = runs_as (earliest T j p).task (earliest T j p).due

abbrev pub plain_runs : Table → List Pending → Option ℕ
plain_runs T [] = none
plain_runs T (j ∷ p) = some (earliest T j p).task

abbrev pub plain_others : Table → List Pending → List Pending
plain_others T [] = []
plain_others T (j ∷ p) = rest T j p

abbrev pub plain_tasks : List Pending → List ℕ
plain_tasks p = map (λ (j : Pending). j.task) p

-- the same refusals
abbrev pub plain_viewed : Table → Plain → View
plain_viewed T p =
    record { last = p.last; runs = plain_runs T p.pending; pending = plain_tasks p.pending; others = plain_tasks (plain_others T p.pending) }

abbrev pub plain_result : Table → Plain → Call → ℕ
plain_result T p e = refusal T (plain_viewed T p) e

-- terminate and chain end the job that it runs
abbrev pub plain_moved : Table → List Pending → Call → List Pending
plain_moved T p (Wait t) = p
plain_moved T p (Activate t n) = accepted T t n ∷ p
plain_moved T p (Terminate t) = plain_others T p
plain_moved T p (Chain t n) = accepted T t n ∷ plain_others T p

abbrev pub plain_next : Table → Plain → Call → Plain
plain_next T p e = unless (plain_result T p e) p (record { last = tick_of e; pending = plain_moved T p.pending e })

abbrev pub plain_run : Table → Plain → List Call → Plain
plain_run T p [] = p
plain_run T p (e ∷ es) = plain_run T (plain_next T p e) es
