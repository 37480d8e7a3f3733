-- `transcript::piece` meets its contract. Assumes nothing.
use mathlib.Core.Path.{◌≡◌, refl, sym, ap, ◌∙◌, subst⁻¹}
use borrow.Author.Rules.{rules}
use native.Mathlib.Omega.{arith}
use Rattle.std.specs.Prelude.{ℕ, Option, Some, None, Ok}
use Rattle.rules.specs.declared.Call.{Call}
use Rattle.rules.specs.declared.Taken.{Taken}
use Rattle.rules.specs.Calls.{tick_of}
use Rattle.rules.specs.Print.{ended, answer_text}
use Rattle.scheduler.specs.State.{Handed, step_of}
use Rattle.scheduler.specs.declared.Stepped.{Stepped}
use Rattle.print.proofs.Texts.{as_text}
use Rattle.transcript.specs.declared.Run.{Run}
use Rattle.transcript.specs.Pieces.{read_in, halt_text, line_text, run_after, called_of, NextLine}
use Rattle.transcript.proofs.Lines.{stops, so_far_line, so_far_ahead, so_far_stopped}
use Rattle.transcript.proofs.piece.Goals as goal
use Rattle.transcript.proofs.piece.Goals.{After-answer_line, in-Wait, in-Activate, in-Terminate, in-Chain, in_default-via-in-Ok+in_default, in_default-via-in_default}

after_tick : (x : Run) (e : Call) (n : ℕ) → (called_of x e n).run.preceding ≡ tick_of e
unfolding called_of
after_tick x e n = refl

-- whichever call it is, the run and the answer are the rule-book's
stepped : (c : After-answer_line)
    → (c.match-call.run ≡ (called_of c.loop-page.run c.in-Ok-Some.call c.in-Ok-Some.next).run)
    × (c.match-call.answer ≡ (called_of c.loop-page.run c.in-Ok-Some.call c.in-Ok-Some.next).answer)
    × Handed c.match-call.run.state
unfolding called_of
stepped c =
    elim c.match-call.branch [
      | in-Wait w ↦ is _ _ c.in-Ok-Some.next-is (w.tick-made.ensures.0 ∙ ap (step_of c.loop-page.run.state) (sym w.in-Wait.is ∙ c.in-Ok-Some.call-is)) w.run-is w.answer-is w.tick-made.ensures.1
      | in-Activate w ↦ is _ _ c.in-Ok-Some.next-is (w.activate-made.ensures.0 ∙ ap (step_of c.loop-page.run.state) (sym w.in-Activate.is ∙ c.in-Ok-Some.call-is)) w.run-is w.answer-is w.activate-made.ensures.1
      | in-Terminate w ↦ is _ _ c.in-Ok-Some.next-is (w.terminate-made.ensures.0 ∙ ap (step_of c.loop-page.run.state) (sym w.in-Terminate.is ∙ c.in-Ok-Some.call-is)) w.run-is w.answer-is w.terminate-made.ensures.1
      | in-Chain w ↦ is _ _ c.in-Ok-Some.next-is (w.chain-made.ensures.0 ∙ ap (step_of c.loop-page.run.state) (sym w.in-Chain.is ∙ c.in-Ok-Some.call-is)) w.run-is w.answer-is w.chain-made.ensures.1
    ]
  where
    tick : c.tick_of-run.result ≡ tick_of c.in-Ok-Some.call
    tick = c.tick_of-run.ensures ∙ ap tick_of c.in-Ok-Some.call-is

    is : (r : Stepped) (n : ℕ) → n ≡ c.in-Ok-Some.next → r ≡ step_of c.loop-page.run.state c.in-Ok-Some.call → c.match-call.run ≡ record { state = r.state; at = n; preceding = c.tick_of-run.result } → c.match-call.answer ≡ r.answer → Handed r.state
        → (c.match-call.run ≡ (called_of c.loop-page.run c.in-Ok-Some.call c.in-Ok-Some.next).run) × (c.match-call.answer ≡ (called_of c.loop-page.run c.in-Ok-Some.call c.in-Ok-Some.next).answer) × Handed c.match-call.run.state
    is r n m q s a h = (s ∙ (λ i. record { state = (q i).state; at = m i; preceding = tick i }), a ∙ ap (λ (z : Stepped). z.answer) q, subst⁻¹ (λ (y : Run). Handed y.state) s h)

-- a turn is what `next_line` gives
turn : (c : After-answer_line)
    → NextLine c.args.tape.now c.loop-page.run c.loop-page.page.bytes c.loop-page.page.len (Some c.match-call.run) c.answer_line.new.self.bytes c.answer_line.new.self.len
turn c =
    let x = c.loop-page.run in
    let g = c.in-Ok-Some in
    let t : Taken Call = record { value = g.call; next = g.next } in
    let read : c.read_record-read.result ≡ Ok (Some t) = search rules in
    let e : read_in c.args.tape.now x ≡ Ok (Some t) = sym c.read_record-read.ensures ∙ read in
    let p = stepped c in
    let tick : c.match-call.run.preceding ≡ tick_of g.call = ap (λ (y : Run). y.preceding) p.0 ∙ after_tick x g.call g.next in
    record {
      line = as_text ((λ i. ended (answer_text (tick i) (p.1 i))) ∙ sym (ap (line_text x) e)) c.answer_line.ensures;
      run = ap (λ (y : Run). Some y) p.0 ∙ sym (ap (run_after x) e);
      handed = p.2;
    }

pub returns-in_default : goal.returns-in_default
returns-in_default c =
    let l = c.loop-page in
    let a = c.args in
    let k = c.read_record-read in
    let e : k.result ≡ read_in a.tape.now l.run = k.ensures in
    let none : run_after l.run k.result ≡ None =
    elim c.in_default.branch [
      | in_default-via-in-Ok+in_default w ↦ let h : w.in_default.field-0 ≡ None = search rules in ap (run_after l.run) w.in_default.is ∙ ap (λ (r : Option (Taken Call)). run_after l.run (Ok r)) h
      | in_default-via-in_default w ↦ ap (run_after l.run) w.in_default.is
    ]
    in
    so_far_stopped a.tape.now a.run a.page.now.bytes a.page.now.len l.run l.page.len l.page.bytes l.invariant _ _ c.loop-page-test.true
    (record {
      line = as_text (ap halt_text c.halt_of.ensures ∙ stops l.run k.result none ∙ ap (line_text l.run) e) c.halt_line.ensures;
      run = sym none ∙ ap (run_after l.run) e;
      handed = tt;
    })

pub loop-page-smaller : goal.loop-page-smaller
loop-page-smaller c =
    let t = (goal.at.loop-page-smaller c).After-answer_line in
    let l = c.loop-page in
    let a = c.args in
    let h = so_far_ahead a.tape.now a.run a.page.now.bytes a.page.now.len l.run l.page.len l.page.bytes l.invariant _ _ c.loop-page-test.true c.match-call.run (turn t) in
    omega (arith, h.0, h.1)

pub loop-page-preserved : goal.loop-page-preserved
loop-page-preserved c =
    let t = (goal.at.loop-page-preserved c).After-answer_line in
    let l = c.loop-page in
    let a = c.args in
    so_far_line a.tape.now a.run a.page.now.bytes a.page.now.len l.run l.page.len l.page.bytes l.invariant _ _ c.loop-page-test.true c.match-call.run (turn t)
