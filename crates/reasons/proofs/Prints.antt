-- What tape_why prints for a tape: a refusal's one line, or a line for each task. Assumes nothing.
use Prim.Native.Nat.{ℕ}
use mathlib.Core.Path.{◌≡◌, refl, ap, ◌∙◌}
use mathlib.Core.List.{List, append-nil}
use native.Mathlib.Omega.{arith}
use Rattle.std.specs.Prelude.{Ok, Err}
use Rattle.rules.specs.declared.Unopened.TheVariants.{BadTable}
use Rattle.rules.specs.Table.{Table}
use Rattle.rules.specs.Layer.{fresh}
use Rattle.rules.specs.Run.{run}
use Rattle.rules.specs.Number.{Read, taken}
use Rattle.rules.specs.Tape.{zero_tick, tape_of, table_at, at_end, records_at, holds, after_table, read_tape}
use Rattle.rules.specs.Print.{Opened, bad_tape, opening}
use Rattle.rules.specs.WhyPrint.{why_lines, why_records, why_opened, why_transcript}
use Rattle.tape.proofs.Tapes.{tape_back}
use Rattle.transcript.proofs.Exact.{opens_with, opens_exact}
use Rattle.reasons.specs.Claims.{TapeRefusedPrints, TableRefusedPrints, TapePrints, WrittenPrints}

-- the print by how the tape opens
pub printed_as : (tape : List ℕ) (a : Opened) → opening tape ≡ a → why_transcript tape ≡ why_opened tape a
unfolding why_transcript
printed_as tape a e = ap (why_opened tape) e

pub tape_refused_prints : TapeRefusedPrints
tape_refused_prints tape r p x = printed_as tape (bad_tape r p) ((opens_exact tape (bad_tape r p)).1 x)

pub table_refused_prints : TableRefusedPrints
table_refused_prints tape v x = printed_as tape (Err (BadTable v)) ((opens_exact tape (Err (BadTable v))).1 x)

pub tape_prints : TapePrints
unfolding read_tape
tape_prints tape T rs l h a = go (table_at tape) refl h
  where
    go : (x : Read Table) → table_at tape ≡ x → after_table tape x ≡ holds T rs → why_transcript tape ≡ why_records T rs
    go (Err k) e q = let z : ◌≡◌ {A = ℕ} 0 1 = cc in absurd (omega arith)
    go (Ok t) e q =
        let same : t.value ≡ T = cc in
        let read : records_at tape t.next zero_tick ≡ rs = cc in
        printed_as tape (Ok (record { value = T; next = t.next })) (opens_with tape T t.next l (e ∙ ap (λ (U : Table). taken U t.next) same) a) ∙ ap (why_records T) read

-- a tape that was written is read to its end
pub written_prints : WrittenPrints
written_prints T es f g a l =
    tape_prints (tape_of T es) T (record { calls = es; stop = at_end }) l (tape_back T es f g) a
    ∙ append-nil (why_lines T (run T fresh es))
