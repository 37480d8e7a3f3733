-- An accepted call: what the rows say of it, by name. A new row is a new field here. Assumes nothing.
use Prim.Native.Nat.{ℕ, ◌<◌, ◌≤◌}
use mathlib.Core.Path.{◌≡◌}
use mathlib.Core.Logic.{inl, inr}
use mathlib.Core.List.{List}
use lib.ListN.{length}
use native.Mathlib.Omega.{arith}
use Rattle.rules.specs.declared.Tick.{Tick}
use Rattle.rules.specs.declared.Call.{Call}
use Rattle.rules.specs.declared.Call.TheVariants.{Wait, Activate, Terminate, Chain}
use Rattle.rules.specs.Words.{count}
use Rattle.rules.specs.Table.{Table, size, limit_of, deadline_of, plus, greatest}
use Rattle.rules.specs.Calls.{View, refusal, tick_of}
use Rattle.rules.specs.Statement.{BadTick, rows, NoLine, AtLimit, OutOfReach, NothingRuns}
use Rattle.rules.proofs.Refusals.{view_exact, None, at_zero}

pub record InTime (last t : Tick) : Type 0 where
  pub not_back : last.0 ≤ t.0
  pub not_over : t.0 ≤ greatest.0

-- a job of task n may come to the tasks l at t
pub record MayEnter (T : Table) (l : List ℕ) (t : Tick) (n : ℕ) : Type 0 where
  pub known : n < size T
  pub below : count n l < limit_of T n
  pub reach : (plus t (deadline_of T n)).0 ≤ greatest.0

pub record AllowedActivate (T : Table) (v : View) (t : Tick) (n : ℕ) : Type 0 where
  pub time : InTime v.last t
  pub enters : MayEnter T v.pending t n
  pub room : length v.pending < 32

pub record AllowedEnd (v : View) (t : Tick) : Type 0 where
  pub time : InTime v.last t
  pub runs : NothingRuns v.runs → ⊥

pub record AllowedChain (T : Table) (v : View) (t : Tick) (n : ℕ) : Type 0 where
  pub time : InTime v.last t
  pub runs : NothingRuns v.runs → ⊥
  pub enters : MayEnter T v.others t n

abbrev pub Allowed : Table → View → Call → Type 0
Allowed T v (Wait t) = InTime v.last t
Allowed T v (Activate t n) = AllowedActivate T v t n
Allowed T v (Terminate t) = AllowedEnd v t
Allowed T v (Chain t n) = AllowedChain T v t n

-- the task that a call names has a line
abbrev pub Known : Table → Call → Type 0
Known T (Wait t) = Unit {0}
Known T (Activate t n) = n < size T
Known T (Terminate t) = Unit {0}
Known T (Chain t n) = n < size T

pub time_of : (T : Table) (v : View) (e : Call) → Allowed T v e → v.last.0 ≤ (tick_of e).0
time_of T v (Wait t) a = a.not_back
time_of T v (Activate t n) a = a.time.not_back
time_of T v (Terminate t) a = a.time.not_back
time_of T v (Chain t n) a = a.time.not_back

pub known_of : (T : Table) (v : View) (e : Call) → Allowed T v e → Known T e
known_of T v (Wait t) a = tt
known_of T v (Activate t n) a = a.enters.known
known_of T v (Terminate t) a = tt
known_of T v (Chain t n) a = a.enters.known

in_time : (s t : Tick) → (BadTick s t → ⊥) → InTime s t
in_time s t h =
    let a : ¬ (t.0 < s.0) = λ d. h (inl d) in
    let b : ¬ (greatest.0 < t.0) = λ d. h (inr d) in
    record { not_back = omega arith; not_over = omega arith }

not_bad : (s t : Tick) → InTime s t → BadTick s t → ⊥
not_bad s t i (inl d) = omega (arith, i)
not_bad s t i (inr d) = omega (arith, i)

may_enter : (T : Table) (l : List ℕ) (t : Tick) (n : ℕ) → (NoLine T n → ⊥) → (AtLimit T n l → ⊥) → (OutOfReach T t n → ⊥) → MayEnter T l t n
may_enter T l t n a b c = record { known = omega arith; below = omega arith; reach = omega arith }

-- no row applies
none_of : (T : Table) (v : View) (e : Call) → refusal T v e ≡ 0 → None (rows T v e) (Unit {0})
none_of T v e z = (at_zero (rows T v e) (Unit {0}) (refusal T v e) (view_exact T v e)).0 z

pub allowed : (T : Table) (v : View) (e : Call) → refusal T v e ≡ 0 → Allowed T v e
allowed T v (Wait t) z = in_time v.last t (none_of T v (Wait t) z).1
allowed T v (Activate t n) z =
    let h = none_of T v (Activate t n) z in
    record {
      time = in_time v.last t h.0.0.0.0.1;
      enters = may_enter T v.pending t n h.0.0.0.1 h.0.0.1 h.1;
      room = let r : ¬ (32 ≤ length v.pending) = h.0.1 in omega arith;
    }
allowed T v (Terminate t) z =
    let h = none_of T v (Terminate t) z in
    record { time = in_time v.last t h.0.1; runs = h.1 }
allowed T v (Chain t n) z =
    let h = none_of T v (Chain t n) z in
    record {
      time = in_time v.last t h.0.0.0.0.1;
      runs = h.0.0.0.1;
      enters = may_enter T v.others t n h.0.0.1 h.0.1 h.1;
    }

-- an activation of which no row's condition holds is accepted
pub accepts : (T : Table) (v : View) (t : Tick) (n : ℕ) → AllowedActivate T v t n → refusal T v (Activate t n) ≡ 0
accepts T v t n a =
    (at_zero (rows T v (Activate t n)) (Unit {0}) (refusal T v (Activate t n)) (view_exact T v (Activate t n))).1
    (((((tt, not_bad v.last t a.time), λ h. omega (arith, a.enters.known)), λ h. omega (arith, a.enters.below)), λ h. omega (arith, a.room)), λ h. omega (arith, a.enters.reach))
