-- How a tape opens, how far it was run, and what each next record prints. Assumes nothing.
use Rattle.std.specs.Prelude.{ℕ, ◌≤◌, ◌<◌, ◌≡◌, List, [], ◌++◌, length, take, Option, Some, None, Result, Ok, Err, IfSome, IfOk}
use Rattle.rules.specs.declared.Call.{Call}
use Rattle.rules.specs.declared.Taken.{Taken}
use Rattle.rules.specs.declared.Halt.{Halt}
use Rattle.rules.specs.declared.Unopened.{Unopened}
use Rattle.rules.specs.Calls.{tick_of}
use Rattle.rules.specs.Table.{Table}
use Rattle.rules.specs.Run.{Head, fresh_head, head_run}
use Rattle.rules.specs.Number.{tape_number}
use Rattle.rules.specs.Tape.{zero_tick, RecordRead, record_at, Stop, at_end, at_refusal, Records, records_at}
use Rattle.rules.specs.Print.{ended, answer_text, tape_text, records_text, opening}
use Rattle.rules.specs.Print as print
use Rattle.scheduler.specs.State.{state_of, table_of, head_of, Handed, step_of}
use Rattle.print.specs.Buffers.{Put}
use Rattle.transcript.specs.declared.Run.{Run}
use Rattle.transcript.specs.declared.Called.{Called}
use Rattle.transcript.specs.declared.Ran.{Ran}

-- ---- how a tape opens

-- a fresh state, in front of the first record
abbrev pub run_from : Taken Table → Run
run_from t = record { state = state_of t.value fresh_head; at = t.next; preceding = zero_tick }

abbrev pub opened_as : print.Opened → Result Run Unopened
opened_as (Ok t) = Ok (run_from t)
opened_as (Err u) = Err u

unfoldable pub opened_of : List ℕ → Result Run Unopened
opened_of tape = opened_as (opening tape)

-- what a tape opens with counts as handed out
abbrev pub HandedOpen : Result Run Unopened → Type 0
HandedOpen r = IfOk r (λ (x : Run). Handed x.state)

-- a tape opens so
abbrev pub Opens : List ℕ → Result Run Unopened → Type 0
Opens tape r = (r ≡ opened_of tape) × HandedOpen r

-- ---- record by record

-- a call is made, and the run goes on behind its record
unfoldable pub called_of : Run → Call → ℕ → Called
called_of x e n =
    record {
      answer = (step_of x.state e).answer;
      run = record { state = (step_of x.state e).state; at = n; preceding = tick_of e };
    }

-- what the reader answers at the place that the run has come to
abbrev pub read_in : List ℕ → Run → RecordRead
read_in tape x = record_at tape x.at x.preceding

-- where the tape is bad, if what the reader answers at a place is no record and not the tape's end
abbrev pub halt_of : ℕ → RecordRead → Option Halt
halt_of p (Ok r) = None
halt_of p (Err k) = Some (record { refusal = k; place = p })

-- a bad tape's line; nothing at the tape's end
abbrev pub halt_text : Option Halt → List ℕ
halt_text None = []
halt_text (Some h) = ended (tape_text (tape_number h.refusal) h.place)

-- the line that it prints: the call's, or what stops the run
abbrev pub line_text : Run → RecordRead → List ℕ
line_text x (Ok (Some t)) = ended (answer_text (tick_of t.value) (called_of x t.value t.next).answer)
line_text x (Ok None) = []
line_text x (Err k) = ended (tape_text (tape_number k) x.at)

-- the run behind it, if there may be more
abbrev pub run_after : Run → RecordRead → Option Run
run_after x (Ok (Some t)) = Some (called_of x t.value t.next).run
run_after x (Ok None) = None
run_after x (Err k) = None

-- the next record's line is put at a place of the buffer, and the run goes on or stops
pub record NextLine (tape : List ℕ) (x : Run) (old : List ℕ) (at : ℕ) (r : Option Run) (new : List ℕ) (next : ℕ) : Type 0 where
  pub line : Put old at (line_text x (read_in tape x)) new next
  pub run : r ≡ run_after x (read_in tape x)
  pub handed : IfSome r (λ (y : Run). Handed y.state)

-- ---- run to where it stops

-- where a tape that was read to a refusal is bad
abbrev pub halt_for : Stop → Option Halt
halt_for at_end = None
halt_for (at_refusal k p) = Some (record { refusal = k; place = p })

-- the state that the calls of records rs leave, and what stopped them
abbrev pub ran_by : Table → Head → Records → Ran
ran_by T h rs = record { state = state_of T (head_run T h rs.calls); halt = halt_for rs.stop }

-- the records from there on
unfoldable pub ran_of : List ℕ → Run → Ran
ran_of tape x = ran_by (table_of x.state) (head_of x.state) (records_at tape x.at x.preceding)

-- ---- all that is left

-- what the records from there on print
abbrev pub rest_text : List ℕ → Run → List ℕ
rest_text tape x = records_text (table_of x.state) (head_of x.state).board (records_at tape x.at x.preceding)

-- what is left behind a line or a piece; nothing behind the last
abbrev pub left_text : List ℕ → Option Run → List ℕ
left_text tape None = []
left_text tape (Some y) = rest_text tape y

-- how many bytes the buffer has, and how many are kept free for a line; none is longer
abbrev pub buffer_room : ℕ
buffer_room = 65536

abbrev pub line_most : ℕ
line_most = 1024

-- the buffer holds the next piece: what stood in front, and the lines up to where the run has come; behind it there may be more
pub record Piece (tape : List ℕ) (x : Run) (old : List ℕ) (at : ℕ) (r : Option Run) (new : List ℕ) (next : ℕ) : Type 0 where
  pub room : next ≤ length new
  pub same : length new ≡ length old
  pub is : take next new ++ left_text tape r ≡ take at old ++ rest_text tape x
  pub ahead : IfSome r (λ (y : Run). (x.at < y.at) × (y.at ≤ length tape))
  pub handed : IfSome r (λ (y : Run). Handed y.state)
