-- What a state stands for, and what the check and the calls promise: what the rule-book gives for it. Assumes nothing.
use Rattle.std.specs.Prelude.{ℕ, ◌-◌, ◌≡◌, List, [], map, Result}
use Rattle.rules.specs.declared.Job.{Job as Entry}
use Rattle.rules.specs.declared.Tick.{Tick}
use Rattle.rules.specs.declared.Answer.{Answer}
use Rattle.rules.specs.declared.Call.{Call}
use Rattle.rules.specs.declared.Reason.{Reason}
use Rattle.rules.specs.declared.CallRefusal.{CallRefusal}
use Rattle.rules.specs.Words.{unless}
use Rattle.rules.specs.Table.{Table, check, deadline_of}
use Rattle.rules.specs.Jobs.{Job}
use Rattle.rules.specs.Late.{is_past}
use Rattle.rules.specs.Layer.{Board, answer}
use Rattle.rules.specs.Run.{Head, fresh_head, head_next, Reached}
use Rattle.rules.specs.Statement.{released_of}
use Rattle.rules.specs.Why.{why}
use Rattle.table.specs.Lines.{TaskTable}
use Rattle.table.specs.Lines.{packed, lines_in, given}
use Rattle.jobs.specs.Listed.{view, pack}
use Rattle.monitor.specs.Tallies.{counts}
use Rattle.scheduler.specs.declared.State.{State}
use Rattle.scheduler.specs.declared.Checked.{Checked}
use Rattle.scheduler.specs.declared.Stepped.{Stepped}

-- ---- how the rule-book's table and head are kept

-- a job without its activation tick, which is its deadline less its task's relative deadline, and without its mark, which the last accepted tick tells
abbrev pub kept : Job → Entry
kept j = record { due = j.due; task = j.task; phase = j.phase }

unfoldable pub state_of : Table → Head → State
state_of T h =
    record {
      table = packed T.lines;
      last = h.board.last;
      list = pack (map kept h.board.jobs);
      monitor = counts h.tallies;
    }

-- ---- and read back

abbrev pub table_of : State → Table
table_of s = record { lines = lines_in s.table }

-- a job was activated its relative deadline before it is due, and was reported if it was late at the last accepted call
abbrev pub job_back : Table → Tick → Entry → Job
job_back T last x =
    record {
      task = x.task;
      since = record { 0 = x.due.0 - (deadline_of T x.task).0 };
      due = x.due;
      phase = x.phase;
      reported = is_past last x.due;
    }

abbrev pub jobs_of : State → List Job
jobs_of s = map (job_back (table_of s) s.last) (view s.list)

-- the kernel's ready queue is the released jobs, from back to front
abbrev pub board_of : State → Board
board_of s = record { last = s.last; jobs = jobs_of s; ready = released_of (jobs_of s) }

unfoldable pub head_of : State → Head
head_of s = record { board = board_of s; tallies = s.monitor.tallies }

-- ---- the check

-- the answer, and a fresh state of an accepted table; after a refusal an empty one of no lines
abbrev pub checked_for : Table → Checked
checked_for T =
    record {
      state = state_of (unless (check T).number (record { lines = [] }) T) fresh_head;
      verdict = check T;
    }

-- of the table that was given
unfoldable pub checked_of : TaskTable → Checked
checked_of g = checked_for (given g)

-- ---- the calls

-- the state was handed out by the check and has since been changed by nothing but calls
pub record Handed (s : State) : Type 0 where
  pub table : Table
  pub head : Head
  pub reached : Reached table head
  pub is : s ≡ state_of table head

-- what the check gives counts as handed out where its number is 0
abbrev pub HandedOut : Checked → Type 0
HandedOut r = r.verdict.number ≡ 0 → Handed r.state

-- the rule-book's answer and next head
unfoldable pub told : Table → Head → Call → Stepped
told T h e = record { state = state_of T (head_next T h e); answer = answer T h.board e }

unfoldable pub step_of : State → Call → Stepped
step_of s e = told (table_of s) (head_of s) e

-- ---- the question

-- the rule-book's answer to why a task's first pending job does or does not run
unfoldable pub why_of : State → ℕ → Result Reason CallRefusal
why_of s n = why (table_of s) (head_of s).board n

-- ---- what the check of a given table, and call e on state s, promise of their result

abbrev pub CheckGives : TaskTable → Checked → Type 0
CheckGives g r = (r ≡ checked_of g) × HandedOut r

abbrev pub CallGives : State → Call → Stepped → Type 0
CallGives s e r = (r ≡ step_of s e) × Handed r.state

-- the same of a state where it stands: call e found s, answered a and left t
abbrev pub CallLeaves : State → Call → Answer → State → Type 0
CallLeaves s e a t = CallGives s e (record { state = t; answer = a })
