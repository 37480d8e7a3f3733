-- The claims of lent lines and states, proved. Assumes nothing.
use mathlib.Core.Path.{◌≡◌, refl, sym, ap, ◌∙◌, subst}
use mathlib.Core.List.{List, [], ◌∷◌}
use Rattle.rules.specs.declared.Answer.{Answer}
use Rattle.rules.specs.declared.Call.{Call}
use Rattle.rules.specs.Table.{Table, check}
use Rattle.rules.proofs.Outcome.{only}
use Rattle.rules.proofs.Checked.{keeps_found, found_keeps}
use Rattle.scheduler.specs.declared.Checked.{Checked}
use Rattle.scheduler.specs.declared.State.{State}
use Rattle.scheduler.specs.State.{checked_for}
use Rattle.scheduler.specs.Claims.{state_after, answered, Goes}
use Rattle.scheduler.proofs.Claims.{the_claims as ruled, checked_fresh}
use Rattle.board.specs.Lent.{Left}
use Rattle.board.specs.Claims.{OneChecked, OneLeft, Went, GoesAsRuled, Claims}

one_checked : OneChecked
one_checked xs r r' c c' = only c.gives c'.gives

one_left : OneLeft
one_left s e a a' t t' l l' = (only l.answers l'.answers, only l.leaves l'.leaves)

-- ---- a whole run

-- steps by value from the state that the check of lines gives
pub steps_go : (T : Table) → (check T).number ≡ 0 → (es : List Call) → Goes T es (answered (checked_for T).state es) (state_after (checked_for T).state es)
steps_go T z es =
    let a = found_keeps T (keeps_found T z) in
    subst (λ (s : State). Goes T es (answered s es) (state_after s es)) (checked_fresh T a) (ruled.runs_as_ruled T a es)

-- lent calls answer and leave what steps by value do
went : (s : State) (es : List Call) (told : List Answer) (t : State) → Went Left s es told t → (told ≡ answered s es) × (t ≡ state_after s es)
went s [] [] t w = (refl, w)
went s [] (a ∷ told) t w = elim w [ ]
went s (e ∷ es) [] t w = elim w [ ]
went s (e ∷ es) (a ∷ told) t w =
    let l = w.1 in
    let rest = went w.0 es told t w.2 in
    (λ i. l.answers i ∷ (rest.0 ∙ ap (λ (u : State). answered u es) l.leaves) i, rest.1 ∙ ap (λ (u : State). state_after u es) l.leaves)

goes_as_ruled : GoesAsRuled
goes_as_ruled xs r c z es told t w =
    let T : Table = record { lines = xs } in
    let s : r.state ≡ (checked_for T).state = ap (λ (x : Checked). x.state) c.gives in
    let n : (check T).number ≡ 0 = sym (ap (λ (x : Checked). x.verdict.number) c.gives) ∙ z in
    let both = went r.state es told t w in
    let goes : Goes T es (answered r.state es) (state_after r.state es) = subst (λ (u : State). Goes T es (answered u es) (state_after u es)) (sym s) (steps_go T n es) in
    subst (λ (u : State). Goes T es told u) (sym both.1) (subst (λ (b : List Answer). Goes T es b (state_after r.state es)) (sym both.0) goes)

pub the_claims : Claims
the_claims = record { one_checked = one_checked; one_left = one_left; goes_as_ruled = goes_as_ruled }
