-- The claims of specs/Claims, proved. Assumes nothing.
use mathlib.Core.Path.{◌≡◌, refl, sym, ap, ◌∙◌, subst}
use mathlib.Core.List.{List, [], ◌∷◌, map}
use Rattle.rules.specs.declared.Call.{Call}
use Rattle.rules.specs.Table.{Table, check}
use Rattle.rules.proofs.Outcome.{only}
use Rattle.scheduler.specs.declared.State.{State}
use Rattle.scheduler.specs.State.{checked_for, step_of}
use Rattle.scheduler.specs.Claims.{state_after, answered, Goes}
use Rattle.board.specs.Claims.{Went}
use Rattle.board.proofs.Claims.{steps_go}
use Rattle.head.specs.declared.HeadState.{HeadState}
use Rattle.head.specs.declared.HeadAnswer.{HeadAnswer}
use Rattle.head.specs.declared.HeadChecked.{HeadChecked}
use Rattle.head.specs.Placed.{placed, state_in, answer_for}
use Rattle.head.specs.Calls.{head_step, Left}
use Rattle.head.specs.Claims.{OneChecked, OneLeft, GoesAsRuled, Claims}
use Rattle.head.proofs.Back.{state_back, placed_back, answers_apart, verdicts_apart, whys_apart, number_same}

one_checked : OneChecked
one_checked xs r r' c c' = only c.gives c'.gives

one_left : OneLeft
one_left p e a a' t t' l l' = (only l.answers l'.answers, only l.leaves l'.leaves)

-- ---- a whole run

-- the state that is read back after a call is the step's
next_back : (p : HeadState) (e : Call) (a : HeadAnswer) (t : HeadState) → Left p e a t → state_in t ≡ (step_of (state_in p) e).state
unfolding head_step
next_back p e a t l = ap state_in l.leaves ∙ state_back (step_of (state_in p) e).state

answer_told : (p : HeadState) (e : Call) (a : HeadAnswer) (t : HeadState) → Left p e a t → a ≡ answer_for (step_of (state_in p) e).answer
unfolding head_step
answer_told p e a t l = l.answers

-- C's calls tell and leave what steps by value do
went : (p : HeadState) (es : List Call) (told : List HeadAnswer) (t : HeadState) → Went Left p es told t → (told ≡ map answer_for (answered (state_in p) es)) × (t ≡ placed (state_after (state_in p) es))
went p [] [] t w = (refl, w ∙ sym (placed_back p))
went p [] (a ∷ told) t w = elim w [ ]
went p (e ∷ es) [] t w = elim w [ ]
went p (e ∷ es) (a ∷ told) t w =
    let next = next_back p e a w.0 w.1 in
    let rest = went w.0 es told t w.2 in
    (λ i. answer_told p e a w.0 w.1 i ∷ (rest.0 ∙ ap (λ (s : State). map answer_for (answered s es)) next) i, rest.1 ∙ ap (λ (s : State). placed (state_after s es)) next)

goes_as_ruled : GoesAsRuled
goes_as_ruled xs r c z es told t w =
    let T : Table = record { lines = xs } in
    let s : state_in r.state ≡ (checked_for T).state = ap (λ (x : HeadChecked). state_in x.state) c.gives ∙ state_back (checked_for T).state in
    let n : (check T).number ≡ 0 = sym (number_same (check T)) ∙ sym (ap (λ (x : HeadChecked). x.verdict.number) c.gives) ∙ z in
    let both = went r.state es told t w in
    record {
      answers = answered (state_in r.state) es;
      state = state_after (state_in r.state) es;
      told_as = both.0;
      left_as = both.1;
      goes = subst (λ (u : State). Goes T es (answered u es) (state_after u es)) (sym s) (steps_go T n es);
    }

pub the_claims : Claims
the_claims =
    record {
      reads_back = state_back;
      places_back = placed_back;
      answers_apart = answers_apart;
      verdicts_apart = verdicts_apart;
      whys_apart = whys_apart;
      one_checked = one_checked;
      one_left = one_left;
      goes_as_ruled = goes_as_ruled;
    }
