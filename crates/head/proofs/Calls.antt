-- What a step by value gives is what a call leaves. Assumes nothing.
use mathlib.Core.Path.{◌≡◌, ap, ◌∙◌}
use Rattle.rules.specs.declared.Call.{Call}
use Rattle.scheduler.proofs.Claims.{the_claims}
use Rattle.head.specs.declared.HeadAnswer.{HeadAnswer}
use Rattle.head.specs.declared.HeadState.{HeadState}
use Rattle.head.specs.declared.HeadStepped.{HeadStepped}
use Rattle.head.specs.Placed.{placed, state_in, HeadHanded, answer_for}
use Rattle.head.specs.Calls.{head_step, Left}
use Rattle.head.proofs.Back.{placed_back}

refused_unchanged : (p : HeadState) → HeadHanded p → (e : Call) → ((head_step p e).answer.result ≡ 0 → ⊥) → (head_step p e).state ≡ p
unfolding head_step answer_for
refused_unchanged p k e n = ap placed (the_claims.refused_unchanged (state_in p) k e n) ∙ placed_back p

-- what the step gives is what the call leaves
pub left : (p : HeadState) (e : Call) (r : HeadStepped) → HeadHanded p → (r ≡ head_step p e) × HeadHanded r.state → Left p e r.answer r.state
left p e r ok g =
    let same : r.answer ≡ (head_step p e).answer = ap (λ (t : HeadStepped). t.answer) g.0 in
    let next : r.state ≡ (head_step p e).state = ap (λ (t : HeadStepped). t.state) g.0 in
    record {
      answers = same;
      leaves = next;
      refused = λ n. next ∙ refused_unchanged p ok e (λ z. n (ap (λ (a : HeadAnswer). a.result) same ∙ z));
      handed = g.1;
    }
