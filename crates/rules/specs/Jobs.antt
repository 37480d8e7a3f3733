-- Document 01, "Ticks and jobs": a job, and the order of the list. Assumes nothing.
use Rattle.std.specs.Prelude.{ℕ, ◌<◌, Bool, false, List, ltb}
use Rattle.rules.specs.declared.Tick.{Tick}
use Rattle.rules.specs.declared.Phase.{Phase}
use Rattle.rules.specs.declared.Phase.TheVariants.{Released}
use Rattle.rules.specs.Words.{Pairs}
use Rattle.rules.specs.Table.{Table, plus, deadline_of}

-- a pending job: its task, when it was activated, and when it is due
pub record Pending : Type 0 where
  pub task : ℕ
  pub since : Tick
  pub due : Tick

-- an accepted activation of task n at tick t: due at t + D
abbrev pub accepted : Table → Tick → ℕ → Pending
accepted T t n = record { task = n; since = t; due = plus t (deadline_of T n) }

-- in the layer's list it also records whether it is delayed or released, and whether it was reported as late
pub record Job : Type 0 where
  pub task : ℕ
  pub since : Tick
  pub due : Tick
  pub phase : Phase
  pub reported : Bool

-- what the plain scheduler knows of it
abbrev pub bare : Job → Pending
bare j = record { task = j.task; since = j.since; due = j.due }

-- a job new in the list
abbrev pub new_job : Phase → Pending → Job
new_job s j = record { task = j.task; since = j.since; due = j.due; phase = s; reported = false }

-- the same job, released
abbrev pub released : Job → Job
released j = record { task = j.task; since = j.since; due = j.due; phase = Released; reported = j.reported }

-- what orders a job: its deadline, whatever the table
unfoldable pub key_at : Table → Tick → ℕ
key_at T due = due.0

abbrev pub key : Table → Pending → ℕ
key T j = key_at T j.due

-- j goes before k: the one order of the list and of the plain scheduler. On equal deadlines neither does, and the first accepted stays first
abbrev pub Before : Table → Pending → Pending → Type 0
Before T j k = key T j < key T k

-- its test
unfoldable pub before : Table → Pending → Pending → Bool
before T j k = ltb (key T j) (key T k)

-- a list in order: no job goes before one that stands in front of it
abbrev pub InOrder : Table → List Pending → Type 0
InOrder T l = Pairs (λ (j k : Pending). Before T k j → ⊥) l
