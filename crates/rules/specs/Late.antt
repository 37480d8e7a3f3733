-- Document 01, "What a call returns", with Q-2: late jobs. Assumes nothing.
use Rattle.std.specs.Prelude.{Bool, not, ◌&&◌, ◌||◌, List, ltb, leb}
use Rattle.rules.specs.declared.Tick.{Tick}
use Rattle.rules.specs.Words.{only}
use Rattle.rules.specs.Jobs.{Job}

-- a job is late when it is pending at the start of an accepted call whose tick is at or above its deadline
unfoldable pub is_past : Tick → Tick → Bool
is_past t due = leb due.0 t.0

abbrev pub is_late : Tick → Job → Bool
is_late t j = is_past t j.due

-- it is reported once, at the first such call: late, and not reported before
abbrev pub newly_late : Tick → List Job → List Job
newly_late t l = only (λ (j : Job). is_late t j && not j.reported) l

-- the job after an accepted call at t
abbrev pub marked_at : Tick → Job → Job
marked_at t j = record { task = j.task; since = j.since; due = j.due; phase = j.phase; reported = j.reported || is_late t j }

-- the same test without a mark on the job, from the last accepted call's tick: for code that keeps no mark
abbrev pub falls_late : Tick → Tick → Job → Bool
falls_late last t j = ltb last.0 j.due.0 && leb j.due.0 t.0
