-- All that is claimed of the print and its pieces; proofs/Claims.antt proves it. Assumes nothing.
use Rattle.std.specs.Prelude.{ℕ, ◌+◌, ◌-◌, ◌*◌, ◌^◌, ◌≤◌, ◌<◌, ◌≡◌, ◌↔◌, length, Option, Ok, Err}
use mathlib.Core.List.{List, [], ◌∷◌, ◌++◌, foldl}
use Rattle.rules.specs.declared.Call.{Call}
use Rattle.rules.specs.declared.Named.TheVariants.{NoneNamed}
use Rattle.rules.specs.declared.Verdict.{Verdict}
use Rattle.rules.specs.declared.TapeRefusal.{TapeRefusal}
use Rattle.rules.specs.declared.TapeRefusal.TheVariants.{TooLong}
use Rattle.rules.specs.declared.Unopened.TheVariants.{BadTable}
use Rattle.rules.specs.Words.{All}
use Rattle.rules.specs.Outcome.{One, OneWith}
use Rattle.rules.specs.Table.{Table, size, verdict, fine, check}
use Rattle.rules.specs.Layer.{fresh}
use Rattle.rules.specs.Number.{tape_number, taken}
use Rattle.rules.specs.Tape.{zero_tick, tape_of, table_at, Records, holds, read_tape}
use Rattle.rules.specs.Print.{decimal, ended, header_text, table_text, tape_text, calls_text, stop_text, longest, Opened, bad_tape, opening, opening_text, behind_text, transcript}
use Rattle.tape.specs.Claims.{NumberWithin, TableFits, RecordsFit}
use Rattle.scheduler.specs.State.{Handed}
use Rattle.print.specs.declared.Page.{Page}
use Rattle.print.specs.Buffers.{Put}
use Rattle.transcript.specs.declared.Run.{Run}
use Rattle.transcript.specs.Pieces.{opened_of, read_in, line_text, run_after, rest_text, left_text, line_most, Opens, NextLine}

-- ---- how a tape opens

-- each opening, with its condition
pub data OpensAs (tape : List ℕ) : Opened → Type 0 where
  -- 26: more than 65,536 bytes of input
  too_long : 65536 < length tape → OpensAs tape (bad_tape TooLong 65536)
  -- a count above 32 is refused as table 1 as soon as it is read, whatever stands behind it
  count_above_lem :
      (k p : ℕ) → length tape ≤ 65536 → NumberWithin tape 0 255 k p → 32 < k → OpensAs tape (Err (BadTable (verdict 1 NoneNamed)))
  -- the table is refused on tape, at the place 0
  no_table :
      (r : TapeRefusal) → length tape ≤ 65536 → ((k p : ℕ) → NumberWithin tape 0 255 k p → k ≤ 32) → table_at tape ≡ Err r
      → OpensAs tape (bad_tape r 0)
  -- the check refuses the table
  table_refused :
      (T : Table) (p : ℕ) → length tape ≤ 65536 → table_at tape ≡ taken T p → size T ≤ 32 → (check T ≡ fine → ⊥)
      → OpensAs tape (Err (BadTable (check T)))
  -- the check accepts it
  table_accepted : (T : Table) (p : ℕ) → length tape ≤ 65536 → table_at tape ≡ taken T p → check T ≡ fine → OpensAs tape (Ok (record { value = T; next = p }))

-- a tape opens so exactly then
abbrev pub OpensExact : Type 0
OpensExact = (tape : List ℕ) (a : Opened) → (opening tape ≡ a) ↔ (OpensAs tape a)

-- ---- the whole print

-- a tape refusal before the table is accepted, or 26, prints its one line only
abbrev pub TapeRefusedPrints : Type 0
TapeRefusedPrints = (tape : List ℕ) (r : TapeRefusal) (p : ℕ) → OpensAs tape (bad_tape r p) → transcript tape ≡ ended (tape_text (tape_number r) p)

-- and so does a refused table
abbrev pub TableRefusedPrints : Type 0
TableRefusedPrints = (tape : List ℕ) (v : Verdict) → OpensAs tape (Err (BadTable v)) → transcript tape ≡ ended (table_text v)

-- of an accepted table: the header, a line for each record that is read, and a bad tape's line where one is refused
abbrev pub TapePrints : Type 0
TapePrints =
    (tape : List ℕ) (T : Table) (rs : Records) → length tape ≤ longest → read_tape tape ≡ holds T rs → check T ≡ fine
    → transcript tape ≡ ended header_text ++ (calls_text T fresh rs.calls ++ stop_text rs.stop)

-- a table that is accepted and calls, written as a tape that isn't too long: the header, and a line for each call
abbrev pub WrittenPrints : Type 0
WrittenPrints =
    (T : Table) (es : List Call) → TableFits T → RecordsFit zero_tick es → check T ≡ fine → length (tape_of T es) ≤ longest
    → transcript (tape_of T es) ≡ ended header_text ++ calls_text T fresh es

-- what digits stand for, highest first
abbrev pub digits_value : List ℕ → ℕ
digits_value s = foldl (λ (v b : ℕ). 10 * v + (b - 48)) 0 s

-- these bytes are the number n in decimal
pub record InDecimal (n : ℕ) (s : List ℕ) : Type 0 where
  -- digits 0 to 9 in ASCII
  pub digits : All (λ (b : ℕ). (48 ≤ b) × (b ≤ 57)) s
  pub value : digits_value s ≡ n
  -- no digit 0 in front of others
  pub shortest : (t : List ℕ) → s ≡ 48 ∷ t → t ≡ []

-- numbers are printed in decimal; 64 bits hold less than 10 to the 20th
abbrev pub DecimalBack : Type 0
DecimalBack = (n : ℕ) → n < 10 ^ 20 → InDecimal n (decimal n)

-- ---- piece by piece

-- the whole print is the opening's line, and behind it what the records from the first one on print, if the table is accepted
abbrev pub OpensAsPrinted : Type 0
OpensAsPrinted =
    (tape : List ℕ) → let o = opened_of tape in transcript tape ≡ opening_text o ++ behind_text o (rest_text tape)

-- what the records print is the next one's line, and what those behind it print
abbrev pub LineByLine : Type 0
LineByLine =
    (tape : List ℕ) (x : Run) → Handed x.state
    → rest_text tape x ≡ line_text x (read_in tape x) ++ left_text tape (run_after x (read_in tape x))

-- no line is longer than the room that is kept for it
abbrev pub LinesFit : Type 0
LinesFit = (tape : List ℕ) (x : Run) → Handed x.state → length (line_text x (read_in tape x)) ≤ line_most

-- ---- one outcome

-- a tape opens in one way
abbrev pub OneOpened : Type 0
OneOpened = (tape : List ℕ) → One (Opens tape)

-- a text is put into a buffer in one way
abbrev pub OnePut : Type 0
OnePut = (old : List ℕ) (at : ℕ) (t : List ℕ) → OneWith (λ (next : ℕ) (new : List ℕ). Put old at t new next)

-- and so is the next record's line
abbrev pub OneLined : Type 0
OneLined = (tape : List ℕ) (x : Run) (old : List ℕ) (at : ℕ) → OneWith (λ (r : Option Run) (page : Page). NextLine tape x old at r page.bytes page.len)

pub record Claims : Type 0 where
  -- 26, a count above 32, the table's refusals on tape and by the check, exactly when
  pub opens_exact : OpensExact
  -- their one line only
  pub tape_refused_prints : TapeRefusedPrints
  pub table_refused_prints : TableRefusedPrints
  -- the print of an accepted table, to the tape's end or a bad record
  pub tape_prints : TapePrints
  pub written_prints : WrittenPrints
  -- what a printed number means
  pub decimal_back : DecimalBack
  pub opens_as_printed : OpensAsPrinted
  pub line_by_line : LineByLine
  pub lines_fit : LinesFit
  pub one_opened : OneOpened
  pub one_put : OnePut
  pub one_lined : OneLined
