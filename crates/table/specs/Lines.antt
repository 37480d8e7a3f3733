-- Document 01, "The task table": how a table is kept by value. Assumes nothing.
use Rattle.std.specs.Prelude.{ℕ, ◌-◌, List, [], ◌∷◌, ◌++◌, length, take, replicate, get_or, Result, Ok, Err}
use Rattle.rules.specs.declared.Line.{Line}
use Rattle.rules.specs.Words.{places}
use Rattle.rules.specs.Table.{Table, no_line, verdict, fine, ranges_from}
use Rattle.rules.specs.declared.Named.TheVariants.{NoneNamed, TheLine, BothLines}
use Rattle.rules.specs.declared.Verdict.{Verdict}
use Rattle.table.specs.declared.LineList.{LineList}
use Rattle.table.specs.declared.TableRefusal.{TableRefusal}
use Rattle.table.specs.declared.TableRefusal.TheVariants.{LineCount, Deadline, Limit, LimitSum, Priority}

-- the lines of the tasks, in 32 places
abbrev pub TaskTable : Type 0
TaskTable = LineList places

-- these lines, and blank ones behind them
unfoldable pub packed : List Line → TaskTable
packed ls = record { lines = ls ++ replicate (places - length ls) no_line; count = length ls }

-- the line at a task's place; a blank one where there is none
abbrev pub line_at : List Line → ℕ → Line
line_at lines n = get_or lines n no_line

-- the lines that a kept table has
abbrev pub lines_in : TaskTable → List Line
lines_in t = take t.count t.lines

-- the table that was given: what stands in the 32 places, and of lines past them only the count is known
abbrev pub given : TaskTable → Table
given t = record { lines = lines_in t ++ replicate (t.count - places) no_line }

-- ---- the check's answers

-- a refusal as the check answers it
abbrev pub refused_as : TableRefusal → Verdict
refused_as LineCount = verdict 1 NoneNamed
refused_as (Deadline i) = verdict 2 (TheLine i)
refused_as (Limit i) = verdict 3 (TheLine i)
refused_as LimitSum = verdict 4 NoneNamed
refused_as (Priority i j) = verdict 5 (BothLines i j)

-- and where there is none
abbrev pub answered : {A : Type 0} → Result A TableRefusal → Verdict
answered (Ok a) = fine
answered (Err r) = refused_as r

-- 2 or 3 of line i alone
unfoldable pub line_answer : ℕ → Line → Verdict
line_answer i x = ranges_from i (x ∷ [])
