-- The order `before`: its test says what it says, and the laws that the rest of the theory knows of it.
-- A change of the order is proved here, and nowhere else. Assumes nothing.
use Prim.Native.Nat.{ℕ, ◌+◌, ◌<◌, ◌≤◌}
use mathlib.Core.Path.{◌≡◌, ap, sym, ◌∙◌}
use mathlib.Core.Bool.{true, false, true≢false}
use native.Mathlib.Omega.{arith}
use borrow.Author.Tests.{ltb-true, lt-ltb}
use Rattle.rules.specs.declared.Tick.{Tick}
use Rattle.rules.specs.Table.{Table, size, Passes, Keeps, deadline_of, priority_of}
use Rattle.rules.specs.Jobs.{Pending, accepted, key_at, key, Before, before}
use Rattle.rules.specs.Statement.{part_at}
use Rattle.rules.proofs.Bools.{by_not}

-- a job that was accepted under this table, by a call at or before now
pub record Made (T : Table) (now : Tick) (j : Pending) : Type 0 where
  pub known : j.task < size T
  pub dues : j.due.0 ≡ j.since.0 + (deadline_of T j.task).0
  pub past : j.since.0 ≤ now.0

-- ---- laws of the order

module _ (T : Table) where
  pub before_true : (j k : Pending) → before T j k ≡ true → Before T j k
  unfolding before
  before_true j k h = ltb-true (key T j) (key T k) h

  pub is_before : (j k : Pending) → Before T j k → before T j k ≡ true
  unfolding before
  is_before j k h = lt-ltb (key T j) (key T k) h

  pub asymmetric : (j k : Pending) → Before T j k → Before T k j → ⊥
  asymmetric j k h g = omega arith

  pub passing : (j k m : Pending) → Before T j k → (Before T m k → ⊥) → Before T j m
  passing j k m h n = omega arith

  -- a job that goes before an older one is of another task
  other_task : (j k : Pending) → Made T j.since j → Made T j.since k → Before T j k → j.task ≡ k.task → ⊥
  unfolding key_at
  other_task j k mj mk h e =
      let d : (deadline_of T j.task).0 ≡ (deadline_of T k.task).0 = ap (λ n. (deadline_of T n).0) e in
      omega arith

  -- and where the table keeps the rule, it has the higher priority
  outranking : Keeps T → (j k : Pending) → Made T j.since j → Made T j.since k → Before T j k
      → priority_of T k.task < priority_of T j.task
  unfolding key_at
  outranking keeps j k mj mk h = keeps.rule j.task k.task mj.known mk.known (omega arith)

  -- where the two activations part the schedulers, the shorter goes before the longer
  pub part_small : (i j : ℕ) → (part_at T i j).0 ≤ 1000
  part_small i j = omega arith

  pub part_order : (i j : ℕ) → Passes T → (deadline_of T i).0 < (deadline_of T j).0
      → Before T (accepted T (part_at T i j) i) (accepted T (part_at T i j) j)
  unfolding key_at
  part_order i j s h = omega arith

  -- what k does not go before is ordered by no greater key
  pub no_greater : (j k : Pending) → (Before T k j → ⊥) → key T j ≤ key T k
  no_greater j k h = omega arith

  -- the order is by deadline: no job that goes before none is due earlier
  pub not_earlier : (j e : Pending) → (Before T j e → ⊥) → e.due.0 ≤ j.due.0
  unfolding key_at
  not_earlier j e h = omega arith

  pub due_later : (e j : Pending) → Before T e j → e.due.0 < j.due.0
  unfolding key_at
  due_later e j h = h

-- ---- the same of its test

pub not_before : (T : Table) (j k : Pending) → (Before T j k → ⊥) → before T j k ≡ false
not_before T j k d = by_not (before T j k) (λ e. d (before_true T j k e))

pub before_false : (T : Table) (j k : Pending) → before T j k ≡ false → Before T j k → ⊥
before_false T j k h d = true≢false (sym (is_before T j k d) ∙ h)

pub asym : (T : Table) (j k : Pending) → before T j k ≡ true → before T k j ≡ false
asym T j k h = not_before T k j (asymmetric T j k (before_true T j k h))

pub through : (T : Table) (j k m : Pending) → before T j k ≡ true → before T m k ≡ false → before T j m ≡ true
through T j k m h n = is_before T j m (passing T j k m (before_true T j k h) (before_false T m k n))

-- ---- what holds between a job and the released ones behind it

-- P m n: a job of task m may stand in front of a released one of task n
pub record Ranking (T : Table) (P : ℕ → ℕ → Type 0) : Type 0 where
  pub apart : (m n : ℕ) → P m n → m ≡ n → ⊥
  pub newer : (j k : Pending) → Made T j.since j → Made T j.since k → before T j k ≡ true → P j.task k.task

-- on any table: it is of another task
abbrev pub Other : ℕ → ℕ → Type 0
Other m n = m ≡ n → ⊥

pub others : (T : Table) → Ranking T Other
others T = record { apart = λ m n h. h; newer = λ j k mj mk h. other_task T j k mj mk (before_true T j k h) }

-- on a table that keeps the rule: it has the higher priority
abbrev pub Higher : Table → ℕ → ℕ → Type 0
Higher T m n = priority_of T n < priority_of T m

pub ranks : (T : Table) → Keeps T → Ranking T (Higher T)
ranks T keeps =
    record {
      apart = λ m n h e. let p : priority_of T m ≡ priority_of T n = ap (priority_of T) e in omega arith;
      newer = λ j k mj mk h. outranking T keeps j k mj mk (before_true T j k h);
    }
