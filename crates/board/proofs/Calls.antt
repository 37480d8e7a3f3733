-- What a step by value gives is what a call on a lent state leaves. Assumes nothing.
use mathlib.Core.Path.{◌≡◌, ap, ◌∙◌}
use Rattle.rules.specs.declared.Answer.{Answer}
use Rattle.rules.specs.declared.Call.{Call}
use Rattle.scheduler.specs.declared.State.{State}
use Rattle.scheduler.specs.declared.Stepped.{Stepped}
use Rattle.scheduler.specs.State.{Handed, step_of}
use Rattle.scheduler.proofs.Claims.{the_claims}
use Rattle.board.specs.Lent.{Left}

-- what the step gives is what the call leaves
pub left : (s : State) (e : Call) (r : Stepped) → Handed s → (r ≡ step_of s e) × Handed r.state → Left s e r.answer r.state
left s e r ok g =
    let same : r.answer ≡ (step_of s e).answer = ap (λ (t : Stepped). t.answer) g.0 in
    let next : r.state ≡ (step_of s e).state = ap (λ (t : Stepped). t.state) g.0 in
    record {
      answers = same;
      leaves = next;
      refused = λ n. next ∙ the_claims.refused_unchanged s ok e (λ z. n (ap (λ (a : Answer). a.result) same ∙ z));
      handed = g.1;
    }
