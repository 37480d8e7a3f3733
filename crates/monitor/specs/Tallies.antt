-- Document 01, "What a call returns": how the counts are kept by value. Assumes nothing.
use Rattle.std.specs.Prelude.{ℕ, List, take}
use Rattle.rules.specs.declared.Late.{Late}
use Rattle.rules.specs.declared.Tally.{Tally}
use Rattle.rules.specs.Counts.{ended_more, on_task}
use Rattle.monitor.specs.declared.Monitor.{Monitor}
use Rattle.monitor.specs.declared.Ended.{Ended}

-- these tallies, one for each task number
abbrev pub counts : List Tally → Monitor
counts c = record { tallies = c }

-- the tasks of newly late jobs
abbrev pub tasks_of : Late → List ℕ
tasks_of l = take l.count l.tasks

-- an ended job counted for its task
abbrev pub with_end : Ended → List Tally → List Tally
with_end e c = on_task e.task (ended_more e.response) c
