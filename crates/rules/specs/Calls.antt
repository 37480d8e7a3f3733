-- Document 01, "What a call returns": the refusals. Assumes nothing.
use Rattle.std.specs.Prelude.{ℕ, Bool, true, false, ◌||◌, List, length, ltb, leb}
use Rattle.std.proofs.Math.Option.{Option, some, none}
use Rattle.rules.specs.declared.Tick.{Tick}
use Rattle.rules.specs.declared.Call.{Call}
use Rattle.rules.specs.declared.Call.TheVariants.{Wait, Activate, Terminate, Chain}
use Rattle.rules.specs.Words.{◌if◌else◌, count}
use Rattle.rules.specs.Table.{Table, size, greatest, plus, deadline_of, limit_of}

abbrev pub tick_of : Call → Tick
tick_of (Wait t) = t
tick_of (Activate t n) = t
tick_of (Terminate t) = t
tick_of (Chain t n) = t

-- what the refusals look at: the last accepted call's tick, the task that runs, the tasks of the pending jobs, and those of all but the running one
pub record View : Type 0 where
  pub last : Tick
  pub runs : Option ℕ
  pub pending : List ℕ
  pub others : List ℕ

-- 8: tick below the last accepted call's, or above the greatest tick
abbrev pub bad_tick : Tick → Tick → Bool
bad_tick last t = ltb t.0 last.0 || ltb greatest.0 t.0

-- 2: nothing runs
abbrev pub is_idle : Option ℕ → Bool
is_idle none = true
is_idle (some n) = false

-- 3: task number has no line
abbrev pub bad_task : Table → ℕ → Bool
bad_task T n = leb (size T) n

-- 4: the task already has its limit of pending jobs; for chain the ending job isn't counted
abbrev pub at_limit : Table → ℕ → List ℕ → Bool
at_limit T n l = leb (limit_of T n) (count n l)

-- 10: 32 jobs pending
abbrev pub is_full : List ℕ → Bool
is_full l = leb 32 (length l)

-- 9: t + D above the greatest tick
abbrev pub out_of_reach : Table → Tick → ℕ → Bool
out_of_reach T t n = ltb greatest.0 (plus t (deadline_of T n)).0

-- the rows are the order of the checks; 0 otherwise
unfoldable pub refusal : Table → View → Call → ℕ
refusal T v (Wait t) = 8 if bad_tick v.last t else 0
refusal T v (Activate t n) =
    8 if bad_tick v.last t
    else 3 if bad_task T n
    else 4 if at_limit T n v.pending
    else 10 if is_full v.pending
    else 9 if out_of_reach T t n
    else 0
refusal T v (Terminate t) = 8 if bad_tick v.last t else 2 if is_idle v.runs else 0
refusal T v (Chain t n) =
    8 if bad_tick v.last t
    else 2 if is_idle v.runs
    else 3 if bad_task T n
    else 4 if at_limit T n v.others
    else 9 if out_of_reach T t n
    else 0
