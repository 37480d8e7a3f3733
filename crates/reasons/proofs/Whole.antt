-- What is put for a tape is tape_why's print. Assumes nothing.
use Prim.Native.Nat.{ℕ}
use mathlib.Core.Path.{◌≡◌, refl, sym, ap, ◌∙◌}
use mathlib.Core.List.{List, ◌++◌}
use native.Mathlib.Omega.{arith}
use Rattle.std.specs.Prelude.{Ok, Err}
use Rattle.rules.specs.declared.Unopened.{Unopened}
use Rattle.rules.specs.Table.{Table, fine, check}
use Rattle.rules.specs.Layer.{Board}
use Rattle.rules.specs.Run.{Head, fresh_head, head_run, Reached}
use Rattle.rules.specs.Tape.{zero_tick, Stop, at_end, at_refusal, Records, records_at}
use Rattle.rules.specs.Print.{stop_text, opening, unopened_text}
use Rattle.rules.specs.Print as print
use Rattle.rules.specs.WhyPrint.{why_lines, why_records, why_transcript}
use Rattle.rules.proofs.Checked.{keeps_found, found_keeps}
use Rattle.rules.proofs.Reached.{head_board, reached_fresh}
use Rattle.scheduler.specs.State.{table_of, head_of}
use Rattle.scheduler.proofs.Back.{table_back, head_back}
use Rattle.transcript.specs.declared.Run.{Run}
use Rattle.transcript.specs.declared.Ran.{Ran}
use Rattle.transcript.specs.Pieces.{halt_text, run_from, opened_as, opened_of, halt_for, ran_by, ran_of}
use Rattle.transcript.proofs.Opens.{Checks, opening_checks}
use Rattle.transcript.proofs.Ends.{ran_is}
use Rattle.reasons.proofs.Prints.{printed_as}

-- what is put behind an accepted table
abbrev pub ran_text : Ran → List ℕ
ran_text r = why_lines (table_of r.state) (head_of r.state).board ++ halt_text r.halt

halt_is : (s : Stop) → halt_text (halt_for s) ≡ stop_text s
halt_is at_end = refl
halt_is (at_refusal k p) = refl

-- the records of an accepted table
ran_text_lem : (T : Table) → check T ≡ fine → (rs : Records) → ran_text (ran_by T fresh_head rs) ≡ why_records T rs
ran_text_lem T a rs =
    let h : Head = head_run T fresh_head rs.calls in
    let r : Reached T h = record { accepted = a; calls = rs.calls; is = refl } in
    (λ i. why_lines (table_back T h i) (head_back T h r i).board ++ halt_is rs.stop i)
    ∙ ap (λ (b : Board). why_lines T b ++ stop_text rs.stop) (head_board T fresh_head rs.calls)

module _ (tape : List ℕ) where
  pub accepted_text : (x : Run) → Ok x ≡ opened_of tape → (r : Ran) → r ≡ ran_of tape x → ran_text r ≡ why_transcript tape
  unfolding opened_of
  accepted_text x e r g = go (opening tape) refl (opening_checks tape) e
    where
      go : (a : print.Opened) → opening tape ≡ a → Checks a → Ok x ≡ opened_as a → ran_text r ≡ why_transcript tape
      go (Err u) q c e = let z : ◌≡◌ {A = ℕ} 0 1 = cc in absurd (omega arith)
      go (Ok t) q c e =
          let same : x ≡ run_from t = cc in
          let f : check t.value ≡ fine = found_keeps t.value (keeps_found t.value c) in
          ap ran_text (g ∙ ap (ran_of tape) same ∙ ran_is t.value fresh_head (reached_fresh t.value f) tape t.next zero_tick)
          ∙ ran_text_lem t.value f (records_at tape t.next zero_tick)
          ∙ sym (printed_as tape (Ok t) q)

  pub refused_text : (u : Unopened) → Err u ≡ opened_of tape → unopened_text u ≡ why_transcript tape
  unfolding opened_of
  refused_text u e = go (opening tape) refl e
    where
      go : (a : print.Opened) → opening tape ≡ a → Err u ≡ opened_as a → unopened_text u ≡ why_transcript tape
      go (Ok t) q e = let z : ◌≡◌ {A = ℕ} 0 1 = cc in absurd (omega arith)
      go (Err v) q e = let same : u ≡ v = cc in ap unopened_text same ∙ sym (printed_as tape (Err v) q)
