-- What the check and the calls give is kept: it is what the scheduler gives for the state that is read back. Assumes nothing.
use Prim.Native.Nat.{ℕ}
use mathlib.Core.Path.{◌≡◌, sym, ap, ◌∙◌, subst⁻¹}
use mathlib.Core.List.{List}
use Rattle.rules.specs.declared.Call.{Call}
use Rattle.rules.specs.declared.Line.{Line}
use Rattle.std.specs.Prelude.{Result}
use Rattle.rules.specs.declared.Reason.{Reason}
use Rattle.rules.specs.declared.CallRefusal.{CallRefusal}
use Rattle.rules.specs.Words.{places}
use Rattle.table.specs.Lines.{TaskTable}
use Rattle.table.specs.Copy.{as_list, copy}
use Rattle.scheduler.specs.declared.State.{State}
use Rattle.scheduler.specs.declared.Checked.{Checked}
use Rattle.scheduler.specs.declared.Stepped.{Stepped}
use Rattle.scheduler.specs.State.{Handed, HandedOut, checked_of, step_of, why_of}
use Rattle.board.proofs.Copies.{checks_lines as checks-copy}
use Rattle.head.specs.declared.HeadState.{HeadState}
use Rattle.head.specs.declared.HeadChecked.{HeadChecked}
use Rattle.head.specs.declared.HeadStepped.{HeadStepped}
use Rattle.head.specs.declared.HeadWhy.{HeadWhy}
use Rattle.head.specs.Placed.{placed, state_in, HeadHanded, why_for}
use Rattle.head.specs.Calls.{checked_placed, checked_table, HeadHandedOut, LinesChecked, stepped_for, head_step, head_why}
use Rattle.head.proofs.Back.{state_back, number_same}

-- a state that was handed out is one, however C keeps it
kept_placed : (s : State) → Handed s → HeadHanded (placed s)
kept_placed s h = subst⁻¹ Handed (state_back s) h

pub checks : (t : TaskTable) (n : Checked) (r : HeadChecked) → (n ≡ checked_of t) × HandedOut n → r ≡ checked_placed n → (r ≡ checked_table t) × HeadHandedOut r
unfolding checked_table
checks t n r g e = (
  e ∙ ap checked_placed g.0,
  subst⁻¹ HeadHandedOut e (λ z. kept_placed n.state (g.1 (sym (number_same n.verdict) ∙ z))),
)

pub opens : (p : HeadState) (s : State) → HeadHanded p → s ≡ state_in p → Handed s
opens p s k e = subst⁻¹ Handed e k

pub steps : (p : HeadState) (e : Call) (s : State) (n : Stepped) (r : HeadStepped) → s ≡ state_in p → (n ≡ step_of s e) × Handed n.state → r ≡ stepped_for n → (r ≡ head_step p e) × HeadHanded r.state
unfolding head_step
steps p e s n r q g z = (
  z ∙ ap stepped_for (g.0 ∙ ap (λ (x : State). step_of x e) q),
  subst⁻¹ (λ (x : HeadStepped). HeadHanded x.state) z (kept_placed n.state g.1),
)

pub asks : (p : HeadState) (k : ℕ) (s : State) (w : Result Reason CallRefusal) (r : HeadWhy) → s ≡ state_in p → w ≡ why_of s k → r ≡ why_for w → r ≡ head_why p k
unfolding head_why
asks p k s w r q g z = z ∙ ap why_for (g ∙ ap (λ (x : State). why_of x k) q)

-- the check answers for a copy of lent lines as for the lines
pub checks_lines : (xs : List Line) (r : HeadChecked) → (r ≡ checked_table (as_list places (copy places xs))) × HeadHandedOut r → LinesChecked xs r
unfolding checked_table
checks_lines xs r g = record { gives = g.0 ∙ ap checked_placed (checks-copy xs); hands_out = g.1 }
