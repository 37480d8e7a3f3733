-- All that is claimed of tape_why's print; proofs/Claims.antt proves it. Assumes nothing.
use Rattle.std.specs.Prelude.{ℕ, ◌≤◌, ◌≡◌, List, ◌++◌, length, Err}
use Rattle.rules.specs.declared.Call.{Call}
use Rattle.rules.specs.declared.Verdict.{Verdict}
use Rattle.rules.specs.declared.TapeRefusal.{TapeRefusal}
use Rattle.rules.specs.declared.Unopened.TheVariants.{BadTable}
use Rattle.rules.specs.Table.{Table, fine, check}
use Rattle.rules.specs.Layer.{fresh}
use Rattle.rules.specs.Run.{run}
use Rattle.rules.specs.Tape.{zero_tick, tape_of, Records, holds, read_tape}
use Rattle.rules.specs.Number.{tape_number}
use Rattle.rules.specs.Print.{ended, table_text, tape_text, stop_text, longest, bad_tape}
use Rattle.rules.specs.WhyPrint.{why_lines, why_transcript}
use Rattle.tape.specs.Claims.{TableFits, RecordsFit}
use Rattle.transcript.specs.Claims.{OpensAs}
use Rattle.transcript.specs.Pieces.{buffer_room}

-- a tape refusal before the table is accepted, or 26, prints its one line only
abbrev pub TapeRefusedPrints : Type 0
TapeRefusedPrints = (tape : List ℕ) (r : TapeRefusal) (p : ℕ) → OpensAs tape (bad_tape r p) → why_transcript tape ≡ ended (tape_text (tape_number r) p)

-- and so does a refused table
abbrev pub TableRefusedPrints : Type 0
TableRefusedPrints = (tape : List ℕ) (v : Verdict) → OpensAs tape (Err (BadTable v)) → why_transcript tape ≡ ended (table_text v)

-- of an accepted table: a line for each task, after the records that are read, and a bad tape's line where one is refused
abbrev pub TapePrints : Type 0
TapePrints =
    (tape : List ℕ) (T : Table) (rs : Records) → length tape ≤ longest → read_tape tape ≡ holds T rs → check T ≡ fine
    → why_transcript tape ≡ why_lines T (run T fresh rs.calls) ++ stop_text rs.stop

-- a table that is accepted and calls, written as a tape that isn't too long: a line for each task, after all the calls
abbrev pub WrittenPrints : Type 0
WrittenPrints =
    (T : Table) (es : List Call) → TableFits T → RecordsFit zero_tick es → check T ≡ fine → length (tape_of T es) ≤ longest
    → why_transcript (tape_of T es) ≡ why_lines T (run T fresh es)

-- the buffer has room for every print
abbrev pub PrintFits : Type 0
PrintFits = (tape : List ℕ) → length (why_transcript tape) ≤ buffer_room

pub record Claims : Type 0 where
  pub tape_refused_prints : TapeRefusedPrints
  pub table_refused_prints : TableRefusedPrints
  pub tape_prints : TapePrints
  pub written_prints : WrittenPrints
  pub print_fits : PrintFits
