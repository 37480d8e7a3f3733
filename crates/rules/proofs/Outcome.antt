-- One outcome: any two that satisfy what a function's source ensures are equal. Assumes nothing.
use mathlib.Core.Path.{◌≡◌, sym, ◌∙◌}
use mathlib.Core.Bool.{Bool}
use mathlib.Core.List.{List}
use Prim.Native.Nat.{ℕ}
use contract.Lifetimes.{Lfts}
use contract.Monad.{fact}
use denote.Triple.Clauses.{Ended, AtExit, Clauses}
use denote.Triple.Entry.{Args, Res}
use borrow.Fn.World.{World}
use Rattle.rules.specs.Outcome.{OneWith}
use Rattle.rules.specs.Tape.{Wrote}

-- P is what a source ensures, of the lifetimes, the arguments, the result and the lent values at exit: one result
abbrev pub OneStated : {K : Type 0} {D R E : K → Type 0} → ((κs : K) → D κs → R κs → E κs → Type 0) → Type 0
OneStated {K} {D} {R} {E} P = (κs : K) (a : D κs) (r r' : R κs) (s s' : E κs) → P κs a r s → P κs a r' s' → r ≡ r'

-- and one state or buffer, the lent value that `left` takes out
abbrev pub OneStatedWith : {K : Type 0} {D R E : K → Type 0} {B : Type 0} → ((κs : K) → D κs → R κs → E κs → Type 0) → ((κs : K) → E κs → B) → Type 0
OneStatedWith {K} {D} {R} {E} P left = (κs : K) (a : D κs) (r r' : R κs) (s s' : E κs) → P κs a r s → P κs a r' s' → (r ≡ r') × (left κs s ≡ left κs s')

-- ---- where a body is walked by hand

abbrev pub Promise : Ended → Type 1
Promise T = (κs : Lfts T.signature.lifetimes) → Args T.signature κs → Res T.signature κs → AtExit T κs → Type 0

-- P is what the source with these clauses ensures
abbrev pub States : (T : Ended) → ((w : World) → Clauses w.𝓤 T) → Promise T → Type 2
States T c P = (w : World) (κs : Lfts T.signature.lifetimes) (a : Args T.signature κs) (g : (c w κs a).ghost) (r : Res T.signature κs) (s : AtExit T κs) → (c w κs a).ensures g r s ≡ fact w.𝓤 (P κs a r s)

abbrev pub OneWalked : (T : Ended) → ((w : World) → Clauses w.𝓤 T) → Promise T → Type 2
OneWalked T c P = States T c P × OneStated P

abbrev pub OneWalkedWith : {B : Type 0} (T : Ended) → ((w : World) → Clauses w.𝓤 T) → Promise T → ((κs : Lfts T.signature.lifetimes) → AtExit T κs → B) → Type 2
OneWalkedWith T c P left = States T c P × OneStatedWith P left

-- ---- promises

-- an equation leaves one
pub only : {A : Type 0} {d r r' : A} → r ≡ d → r' ≡ d → r ≡ r'
only p q = p ∙ sym q

-- what a writer promises leaves one answer and one buffer
pub wrote : (bad : Bool) (bytes old : List ℕ) → OneWith (Wrote bad bytes old)
wrote bad bytes old r r' new new' w w' = (only w.answer w'.answer, only w.buffer w'.buffer)
