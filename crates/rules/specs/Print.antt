-- Document 01, "The program and one whole run": what the program prints for a tape, from bytes to bytes. Assumes nothing.
use Rattle.std.specs.Prelude.{ℕ, zero, suc, ◌+◌, ◌/◌, ◌%◌, Bool, false, cond, List, [], ◌∷◌, ◌++◌, length, take, ltb, eqb, Some, None, Result, Ok, Err}
use Prim.Native.Char.{code}
use Prim.Native.String.{String, len, char_at}
use Rattle.rules.specs.declared.Tick.{Tick}
use Rattle.rules.specs.declared.Call.{Call}
use Rattle.rules.specs.declared.KernelCall.{KernelCall}
use Rattle.rules.specs.declared.KernelCall.TheVariants.{NoCall, ActivateTask, ChainTask, TerminateTask}
use Rattle.rules.specs.declared.Late.{Late}
use Rattle.rules.specs.declared.Answer.{Answer}
use Rattle.rules.specs.declared.Named.{Named}
use Rattle.rules.specs.declared.Named.TheVariants.{NoneNamed, TheLine, BothLines}
use Rattle.rules.specs.declared.Verdict.{Verdict}
use Rattle.rules.specs.declared.Taken.{Taken}
use Rattle.rules.specs.declared.TapeRefusal.{TapeRefusal}
use Rattle.rules.specs.declared.TapeRefusal.TheVariants.{TooLong}
use Rattle.rules.specs.declared.Unopened.{Unopened}
use Rattle.rules.specs.declared.Unopened.TheVariants.{BadTable, BadTape}
use Rattle.rules.specs.Words.{places}
use Rattle.rules.specs.Table.{Table, verdict, check}
use Rattle.rules.specs.Answers.{Choice}
use Rattle.rules.specs.Calls.{tick_of}
use Rattle.rules.specs.Layer.{Board, fresh, next, answer}
use Rattle.rules.specs.Number.{Read, tape_number, bounded_at}
use Rattle.rules.specs.Tape.{greatest_byte, zero_tick, table_at, Stop, at_end, at_refusal, Records, records_at}

-- ---- words, numbers and lines, byte by byte

-- so many characters of a text from a place on, by their codes
abbrev pub codes_from : ℕ → ℕ → String → List ℕ
codes_from i zero s = []
codes_from i (suc left) s = code (char_at s i) ∷ codes_from (suc i) left s

-- a text in ASCII, a byte for each character
abbrev pub ascii : String → List ℕ
ascii s = codes_from 0 (len s) s

-- the digits of n, at most k of them: those of a tenth of it, and its last one
unfoldable pub decimal_in : ℕ → ℕ → List ℕ
decimal_in zero n = []
decimal_in (suc k) n = cond (ltb n 10) [] (decimal_in k (n / 10)) ++ ((48 + n % 10) ∷ [])

-- 64 bits hold at most 20
abbrev pub decimal : ℕ → List ℕ
decimal n = decimal_in 20 n

-- stands for absent
abbrev pub dash : List ℕ
dash = ascii "-"

-- single spaces
unfoldable pub spaced : List (List ℕ) → List ℕ
spaced [] = []
spaced (w ∷ []) = w
spaced (w ∷ v ∷ ws) = w ++ (ascii " " ++ spaced (v ∷ ws))

-- every line, the last too, ends in a newline
abbrev pub ended : List ℕ → List ℕ
ended t = t ++ ascii "\n"

-- ---- a call's line: its tick, result, running task, its deadline, kernel call, newly late tasks

abbrev pub run_text : Choice → List ℕ
run_text None = dash
run_text (Some r) = decimal r.task

abbrev pub due_text : Choice → List ℕ
due_text None = dash
due_text (Some r) = decimal r.due.0

-- A, C with the task number, or T
abbrev pub call_text : KernelCall → List ℕ
call_text NoCall = dash
call_text (ActivateTask n) = ascii "A" ++ decimal n
call_text (ChainTask n) = ascii "C" ++ decimal n
call_text TerminateTask = ascii "T"

-- each with a comma in front
unfoldable pub comma_tasks : List ℕ → List ℕ
comma_tasks [] = []
comma_tasks (n ∷ ns) = (ascii "," ++ decimal n) ++ comma_tasks ns

-- joined by commas
unfoldable pub tasks_text : List ℕ → List ℕ
tasks_text [] = dash
tasks_text (n ∷ ns) = decimal n ++ comma_tasks ns

abbrev pub late_text : Late → List ℕ
late_text l = tasks_text (take l.count l.tasks)

unfoldable pub answer_text : Tick → Answer → List ℕ
answer_text t a =
    spaced
    (decimal t.0 ∷ decimal a.result ∷ run_text a.running ∷ due_text a.running ∷ call_text a.call ∷ late_text a.late ∷ [])

-- ---- the other lines

abbrev pub header_text : List ℕ
header_text = ascii "tick res run due call late"

-- table N I J, dashes for lines not named
abbrev pub first_text : Named → List ℕ
first_text NoneNamed = dash
first_text (TheLine i) = decimal i
first_text (BothLines i j) = decimal i

abbrev pub second_text : Named → List ℕ
second_text NoneNamed = dash
second_text (TheLine i) = dash
second_text (BothLines i j) = decimal j

unfoldable pub table_text : Verdict → List ℕ
table_text v = spaced (ascii "table" ∷ decimal v.number ∷ first_text v.lines ∷ second_text v.lines ∷ [])

-- tape N at P
unfoldable pub tape_text : ℕ → ℕ → List ℕ
tape_text n p = spaced (ascii "tape" ∷ decimal n ∷ ascii "at" ∷ decimal p ∷ [])

-- ---- the records

-- one line for each record
unfoldable pub calls_text : Table → Board → List Call → List ℕ
calls_text T b [] = []
calls_text T b (e ∷ es) = ended (answer_text (tick_of e) (answer T b e)) ++ calls_text T (next T b e) es

-- a bad tape ends the print with its line
abbrev pub stop_text : Stop → List ℕ
stop_text at_end = []
stop_text (at_refusal k p) = ended (tape_text (tape_number k) p)

abbrev pub records_text : Table → Board → Records → List ℕ
records_text T b rs = calls_text T b rs.calls ++ stop_text rs.stop

-- ---- how a tape opens

-- the table and the place of the first record, where the table is accepted
abbrev pub Opened : Type 0
Opened = Result (Taken Table) Unopened

-- the tape is bad
abbrev pub bad_tape : TapeRefusal → ℕ → Opened
bad_tape k p = Err (BadTape (record { refusal = k; place = p }))

-- how many bytes a tape has at most
abbrev pub longest : ℕ
longest = 65536

-- the check's answer
abbrev pub checked_as : Taken Table → Opened
checked_as t = cond (eqb (check t.value).number 0) (Ok t) (Err (BadTable (check t.value)))

-- the place is 0 for the table
abbrev pub table_opened : Read Table → Opened
table_opened (Ok t) = checked_as t
table_opened (Err k) = bad_tape k 0

-- a count above 32
abbrev pub count_above : Read ℕ → Bool
count_above (Ok t) = ltb places t.value
count_above (Err k) = false

-- 26 goes before everything, at the first byte too many; a count above 32 is refused as table 1 as soon as it is read
unfoldable pub opening : List ℕ → Opened
opening tape =
    cond (ltb longest (length tape)) (bad_tape TooLong longest)
    (cond (count_above (bounded_at greatest_byte tape 0)) (Err (BadTable (verdict 1 NoneNamed)))
    (table_opened (table_at tape)))

-- ---- the whole print

-- of a refused table or a bad tape the one line only
abbrev pub unopened_text : Unopened → List ℕ
unopened_text (BadTable v) = ended (table_text v)
unopened_text (BadTape h) = ended (tape_text (tape_number h.refusal) h.place)

-- the header once the table is accepted
abbrev pub opening_text : {A : Type 0} → Result A Unopened → List ℕ
opening_text (Ok t) = ended header_text
opening_text (Err u) = unopened_text u

-- and what stands behind it: the records of an accepted table
abbrev pub behind_text : {A : Type 0} → Result A Unopened → (A → List ℕ) → List ℕ
behind_text (Ok t) records = records t
behind_text (Err u) records = []

abbrev pub opened_text : List ℕ → Opened → List ℕ
opened_text tape o = opening_text o ++ behind_text o (λ (t : Taken Table). records_text t.value fresh (records_at tape t.next zero_tick))

unfoldable pub transcript : List ℕ → List ℕ
transcript tape = opened_text tape (opening tape)
