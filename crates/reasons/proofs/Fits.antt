-- Every print of tape_why fits into the buffer. Assumes nothing.
use Prim.Native.Nat.{ℕ, zero, suc, ◌*◌, ◌≤◌}
use mathlib.Core.Path.{◌≡◌, refl, subst⁻¹}
use mathlib.Core.List.{List}
use native.Mathlib.Omega.{arith}
use lib.ListN.{length, length-append}
use Rattle.rules.specs.declared.Named.{Named}
use Rattle.rules.specs.declared.Named.TheVariants.{NoneNamed, TheLine, BothLines}
use Rattle.std.specs.Prelude.{Result, Ok, Err}
use Rattle.rules.specs.declared.Unopened.TheVariants.{BadTable, BadTape}
use Rattle.rules.specs.declared.Verdict.{Verdict}
use Rattle.rules.specs.declared.Reason.TheVariants.{NonePending, ItRuns, Earlier, ThereFirst}
use Rattle.rules.specs.declared.Reason.{Reason}
use Rattle.rules.specs.declared.CallRefusal.{CallRefusal}
use Rattle.rules.specs.Answers.{call_number}
use Rattle.rules.specs.Table.{Table, size}
use Rattle.rules.specs.Layer.{Board, fresh}
use Rattle.rules.specs.Run.{run}
use Rattle.rules.specs.Tape.{zero_tick, Stop, at_end, at_refusal, records_at}
use Rattle.rules.specs.Number.{tape_number}
use Rattle.rules.specs.Print.{spaced, ended, table_text, stop_text, Opened, opening}
use Rattle.rules.specs.Why.{why}
use Rattle.rules.specs.WhyPrint.{why_text, why_lines_from, why_lines, why_transcript}
use Rattle.rules.proofs.Checked.{keeps_found}
use Rattle.transcript.specs.Pieces.{buffer_room}
use Rattle.transcript.proofs.Opens.{Checks, opening_checks}
use Rattle.transcript.proofs.Fits.{number_few, stop_few}
use Rattle.reasons.specs.Claims.{PrintFits}
use Rattle.reasons.proofs.Prints.{printed_as}

line_few : (n : ℕ) (w : Result Reason CallRefusal) → length (ended (why_text n w)) ≤ 200
unfolding why_text spaced
line_few n (Err k) = simp length-append (omega (arith, number_few n, number_few (call_number k)))
line_few n (Ok NonePending) = simp length-append (omega (arith, number_few n))
line_few n (Ok ItRuns) = simp length-append (omega (arith, number_few n))
line_few n (Ok (Earlier m t)) = simp length-append (omega (arith, number_few n, number_few m, number_few t.0))
line_few n (Ok (ThereFirst m t)) = simp length-append (omega (arith, number_few n, number_few m, number_few t.0))

lines_few : (T : Table) (b : Board) (n k : ℕ) → length (why_lines_from T b n k) ≤ 200 * k
unfolding why_lines_from
lines_few T b n zero = omega arith
lines_few T b n (suc k) =
    omega (arith, length-append (ended (why_text n (why T b n))) (why_lines_from T b (suc n) k), line_few n (why T b n), lines_few T b (suc n) k)

stop_text_few : (s : Stop) → length (stop_text s) ≤ 1024
stop_text_few at_end = omega arith
stop_text_few (at_refusal k p) = stop_few (tape_number k) p

table_few : (v : Verdict) → length (ended (table_text v)) ≤ 1024
unfolding table_text spaced
table_few v = go v.lines
  where
    go : (l : Named) → length (ended (table_text (record { number = v.number; lines = l }))) ≤ 1024
    go NoneNamed = simp length-append (omega (arith, number_few v.number))
    go (TheLine i) = simp length-append (omega (arith, number_few v.number, number_few i))
    go (BothLines i j) = simp length-append (omega (arith, number_few v.number, number_few i, number_few j))

pub print_fits : PrintFits
print_fits tape = go (opening tape) refl (opening_checks tape)
  where
    go : (a : Opened) → opening tape ≡ a → Checks a → length (why_transcript tape) ≤ buffer_room
    go (Ok t) q c =
        let T = t.value in
        let rs = records_at tape t.next zero_tick in
        let few = (keeps_found T c).passes.counted.1 in
        subst⁻¹ (λ (t : List ℕ). length t ≤ buffer_room) (printed_as tape (Ok t) q)
        (omega (arith, length-append (why_lines T (run T fresh rs.calls)) (stop_text rs.stop), lines_few T (run T fresh rs.calls) 0 (size T), stop_text_few rs.stop, few))
    go (Err (BadTable v)) q c = subst⁻¹ (λ (t : List ℕ). length t ≤ buffer_room) (printed_as tape (Err (BadTable v)) q) (omega (arith, table_few v))
    go (Err (BadTape h)) q c = subst⁻¹ (λ (t : List ℕ). length t ≤ buffer_room) (printed_as tape (Err (BadTape h)) q) (omega (arith, stop_few (tape_number h.refusal) h.place))
