-- `transcript::run_out` meets its contract. Assumes nothing.
use mathlib.Core.Path.{◌≡◌, refl, sym, ap, ◌∙◌}
use borrow.Author.Rules.{rules}
use native.Mathlib.Omega.{arith}
use Rattle.std.specs.Prelude.{ℕ, Option, Some, None, Ok}
use Rattle.rules.specs.declared.Call.{Call}
use Rattle.rules.specs.declared.Taken.{Taken}
use Rattle.rules.specs.declared.Halt.{Halt}
use Rattle.tape.proofs.Records.{forward}
use Rattle.transcript.specs.declared.Called.{Called}
use Rattle.transcript.specs.declared.Run.{Run}
use Rattle.transcript.specs.Pieces.{run_after, called_of, ran_of}
use Rattle.transcript.proofs.Ends.{ran_on, ran_stops}
use Rattle.transcript.proofs.run_out.Goals as goal
use Rattle.transcript.proofs.run_out.Goals.{in_default-via-in-Ok+in_default, in_default-via-in_default}

place : (x : Run) (e : Call) (n : ℕ) → (called_of x e n).run.at ≡ n
unfolding called_of
place x e n = refl

pub returns-in_default : goal.returns-in_default
returns-in_default c =
    let x = c.loop-call.run in
    let tape = c.args.tape.now in
    let k = c.read_record-read in
    let none : run_after x k.result ≡ None =
    elim c.in_default.branch [
      | in_default-via-in-Ok+in_default w ↦ let h : w.in_default.field-0 ≡ None = search rules in ap (run_after x) w.in_default.is ∙ ap (λ (r : Option (Taken Call)). run_after x (Ok r)) h
      | in_default-via-in_default w ↦ ap (run_after x) w.in_default.is
    ]
    in
    let h = c.loop-call.invariant in (
      ap (λ (z : Option Halt). record { state = x.state; halt = z }) c.halt_of.ensures ∙ ran_stops tape x h.0 k.result (sym k.ensures) none ∙ h.1,
      h.0,
    )

pub loop-call-smaller : goal.loop-call-smaller
loop-call-smaller c =
    let x = c.loop-call.run in
    let g = c.in-Ok-Some in
    let read : c.read_record-read.result ≡ Ok (Some (record { value = g.call; next = g.next })) = search rules in
    let f = forward c.args.tape.now x.at x.preceding g.call g.next (sym c.read_record-read.ensures ∙ read) in
    let called : c.run_call.result ≡ called_of x g.call g.next = c.run_call.ensures.0 ∙ (λ i. called_of x (g.call-is i) (g.next-is i)) in
    let n : c.run_call.result.run.at ≡ g.next = ap (λ (z : Called). z.run.at) called ∙ place x g.call g.next in
    omega (arith, f.0, f.1, n)

pub loop-call-preserved : goal.loop-call-preserved
loop-call-preserved c =
    let x = c.loop-call.run in
    let g = c.in-Ok-Some in
    let t : Taken Call = record { value = g.call; next = g.next } in
    let read : c.read_record-read.result ≡ Ok (Some t) = search rules in
    let called : c.run_call.result ≡ called_of x g.call g.next = c.run_call.ensures.0 ∙ (λ i. called_of x (g.call-is i) (g.next-is i)) in
    let h = c.loop-call.invariant in
    (c.run_call.ensures.1, ap (λ (z : Called). ran_of c.args.tape.now z.run) called ∙ ran_on c.args.tape.now x h.0 t (sym c.read_record-read.ensures ∙ read) ∙ h.1)
