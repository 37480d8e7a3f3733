-- What tests tell. Assumes nothing.
use Prim.Native.Nat.{ℕ}
use mathlib.Core.Path.{◌≡◌, refl, sym}
use mathlib.Core.Logic.{◌↔◌, ◌⊎◌, inl, inr}
use mathlib.Core.Bool.{Bool, true, false, ◌&&◌, ◌||◌, true≢false}
use lib.Dec.{leb}
use borrow.Author.Tests.{leb-true, le-leb}
use Rattle.rules.specs.Words.{Within, within}

pub absurd_bool {ℓ} : {A : Type ℓ} → true ≡ false → A
absurd_bool e = absurd (true≢false e)

pub or_false_both : (s t : Bool) → (s || t) ≡ false → (s ≡ false) × (t ≡ false)
or_false_both true t e = absurd_bool e
or_false_both false t e = (refl, e)

pub or_true_one : (s t : Bool) → (s || t) ≡ true → (s ≡ true) ⊎ (t ≡ true)
or_true_one true t e = inl refl
or_true_one false t e = inr e

pub and_true_both : (s t : Bool) → (s && t) ≡ true → (s ≡ true) × (t ≡ true)
and_true_both true t e = (refl, e)
and_true_both false t e = absurd_bool (sym e)

pub and_is_true : (s t : Bool) → (s ≡ true) × (t ≡ true) → (s && t) ≡ true
and_is_true true t b = b.1
and_is_true false t b = b.0

pub or_is_true : (s t : Bool) → (s ≡ true) ⊎ (t ≡ true) → (s || t) ≡ true
or_is_true true t o = refl
or_is_true false t (inl e) = absurd_bool (sym e)
or_is_true false t (inr e) = e

-- the test of a range is the range
pub within_test : (lo hi x : ℕ) → (within lo hi x ≡ true) ↔ Within lo hi x
within_test lo hi x = (
  λ e. let b = and_true_both (leb lo x) (leb x hi) e in (leb-true lo x b.0, leb-true x hi b.1),
  λ w. and_is_true (leb lo x) (leb x hi) (le-leb lo x w.0, le-leb x hi w.1),
)

-- a test that can't pass fails
pub by_not : (t : Bool) → (t ≡ true → ⊥) → t ≡ false
by_not true h = absurd (h refl)
by_not false h = refl

-- a test decides what it is the test of
pub decided : {P : Type 0} (t : Bool) → ((t ≡ true) ↔ P) → Dec P
decided true e = yes (e.0 refl)
decided false e = no (λ p. true≢false (sym (e.1 p)))
