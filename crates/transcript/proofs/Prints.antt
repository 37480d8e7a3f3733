-- What the program prints for a tape: a refusal's one line, or the header and a line for each record. Assumes nothing.
use Prim.Native.Nat.{ℕ}
use mathlib.Core.Path.{◌≡◌, refl, ap, ◌∙◌}
use mathlib.Core.List.{List, ◌++◌, append-nil}
use native.Mathlib.Omega.{arith}
use Rattle.std.specs.Prelude.{Ok, Err}
use Rattle.rules.specs.declared.Unopened.TheVariants.{BadTable}
use Rattle.rules.specs.Table.{Table}
use Rattle.rules.specs.Layer.{fresh}
use Rattle.rules.specs.Number.{Read, taken, tape_number}
use Rattle.rules.specs.Tape.{zero_tick, tape_of, table_at, at_end, Records, records_at, holds, after_table, read_tape}
use Rattle.rules.specs.Print.{ended, header_text, table_text, tape_text, calls_text, records_text, Opened, bad_tape, opening, opened_text, transcript}
use Rattle.tape.proofs.Tapes.{tape_back}
use Rattle.transcript.specs.Claims.{TapeRefusedPrints, TableRefusedPrints, TapePrints, WrittenPrints}
use Rattle.transcript.proofs.Exact.{opens_with, opens_exact}

-- the print by how the tape opens
printed_as : (tape : List ℕ) (a : Opened) → opening tape ≡ a → transcript tape ≡ opened_text tape a
unfolding transcript
printed_as tape a e = ap (opened_text tape) e

pub tape_refused_prints : TapeRefusedPrints
tape_refused_prints tape r p x = printed_as tape (bad_tape r p) ((opens_exact tape (bad_tape r p)).1 x) ∙ append-nil (ended (tape_text (tape_number r) p))

pub table_refused_prints : TableRefusedPrints
table_refused_prints tape v x = printed_as tape (Err (BadTable v)) ((opens_exact tape (Err (BadTable v))).1 x) ∙ append-nil (ended (table_text v))

pub tape_prints : TapePrints
unfolding read_tape
tape_prints tape T rs l h a = go (table_at tape) refl h
  where
    go : (x : Read Table) → table_at tape ≡ x → after_table tape x ≡ holds T rs → transcript tape ≡ ended header_text ++ records_text T fresh rs
    go (Err k) e q = let z : ◌≡◌ {A = ℕ} 0 1 = cc in absurd (omega arith)
    go (Ok t) e q =
        let same : t.value ≡ T = cc in
        let read : records_at tape t.next zero_tick ≡ rs = cc in
        printed_as tape (Ok (record { value = T; next = t.next })) (opens_with tape T t.next l (e ∙ ap (λ (U : Table). taken U t.next) same) a) ∙ ap (λ (z : Records). ended header_text ++ records_text T fresh z) read

-- a tape that was written is read to its end
pub written_prints : WrittenPrints
written_prints T es f g a l =
    tape_prints (tape_of T es) T (record { calls = es; stop = at_end }) l (tape_back T es f g) a
    ∙ ap (λ (s : List ℕ). ended header_text ++ s) (append-nil (calls_text T fresh es))
