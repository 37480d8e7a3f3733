-- Q-1, the program tape_why: a tape is run as document 01 runs it, with no print on the way; then a line says of each task why it waits. Assumes nothing.
use Rattle.std.specs.Prelude.{ℕ, zero, suc, List, [], ◌∷◌, ◌++◌, Result, Ok, Err}
use Rattle.rules.specs.declared.Taken.{Taken}
use Rattle.rules.specs.declared.Unopened.{Unopened}
use Rattle.rules.specs.declared.Reason.{Reason}
use Rattle.rules.specs.declared.Reason.TheVariants.{NonePending, ItRuns, Earlier, ThereFirst}
use Rattle.rules.specs.declared.CallRefusal.{CallRefusal}
use Rattle.rules.specs.Table.{Table, size}
use Rattle.rules.specs.Answers.{call_number}
use Rattle.rules.specs.Layer.{Board, fresh}
use Rattle.rules.specs.Tape.{zero_tick, Records, records_at}
use Rattle.rules.specs.Run.{run}
use Rattle.rules.specs.Print.{ascii, decimal, spaced, ended, stop_text, Opened, opening, unopened_text}
use Rattle.rules.specs.Why.{why}

-- ---- a task's line

-- task n is running; is waiting: task m is running ..
abbrev pub reason_words : Reason → List (List ℕ)
reason_words NonePending = ascii "has no pending job" ∷ []
reason_words ItRuns = ascii "is running" ∷ []
reason_words (Earlier m t) = ascii "is waiting: task" ∷ decimal m ∷ ascii "is running with the earlier deadline" ∷ decimal t.0 ∷ []
reason_words (ThereFirst m t) =
    ascii "is waiting: task" ∷ decimal m ∷ ascii "was there first and is running with the same deadline" ∷ decimal t.0 ∷ []

abbrev pub why_words : Result Reason CallRefusal → List (List ℕ)
why_words (Ok r) = reason_words r
why_words (Err k) = ascii "is refused:" ∷ decimal (call_number k) ∷ []

unfoldable pub why_text : ℕ → Result Reason CallRefusal → List ℕ
why_text n w = spaced (ascii "task" ∷ decimal n ∷ why_words w)

-- ---- the whole print

-- one line for each of so many tasks, from task n on
unfoldable pub why_lines_from : Table → Board → ℕ → ℕ → List ℕ
why_lines_from T b n zero = []
why_lines_from T b n (suc left) = ended (why_text n (why T b n)) ++ why_lines_from T b (suc n) left

-- one line for each table line
abbrev pub why_lines : Table → Board → List ℕ
why_lines T b = why_lines_from T b 0 (size T)

-- after the records that are read; a bad tape ends the print with its line
abbrev pub why_records : Table → Records → List ℕ
why_records T rs = why_lines T (run T fresh rs.calls) ++ stop_text rs.stop

-- in place of document 01's header and lines; a refused table and a bad tape print their one line as there
abbrev pub instead_text : {A : Type 0} → Result A Unopened → (A → List ℕ) → List ℕ
instead_text (Ok t) records = records t
instead_text (Err u) records = unopened_text u

abbrev pub why_opened : List ℕ → Opened → List ℕ
why_opened tape o = instead_text o (λ (t : Taken Table). why_records t.value (records_at tape t.next zero_tick))

unfoldable pub why_transcript : List ℕ → List ℕ
why_transcript tape = why_opened tape (opening tape)
