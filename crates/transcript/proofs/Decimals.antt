-- What the digits of a printed number stand for. Assumes nothing.
use Prim.Native.Nat.{ℕ, zero, suc, ◌+◌, ◌-◌, ◌*◌, ◌/◌, ◌%◌, ◌^◌, ◌≤◌, ◌<◌}
use mathlib.Core.Path.{◌≡◌, refl, sym, ap, ◌∙◌}
use mathlib.Core.List.{List, [], ◌∷◌, ◌++◌, foldl}
use mathlib.Core.Logic.{⊎_elim}
use native.Mathlib.Nat.{div-lt_iff_lt-mul, pow-suc}
use native.Mathlib.Omega.{arith}
use borrow.Author.Tests.{lt-ltb, le-ltb}
use Rattle.rules.specs.Words.{All}
use Rattle.rules.specs.Print.{decimal_in, decimal}
use Rattle.rules.proofs.Lists.{all_append}
use Rattle.std.proofs.lemmas.Bool.{cases_lt}
use Rattle.transcript.specs.Claims.{digits_value, DecimalBack}

-- one digit more: ten times the value, and the digit
fold_last : (s : List ℕ) (b v : ℕ) → foldl (λ (v b : ℕ). 10 * v + (b - 48)) v (s ++ (b ∷ [])) ≡ 10 * foldl (λ (v b : ℕ). 10 * v + (b - 48)) v s + (b - 48)
fold_last [] b v = refl
fold_last (a ∷ s) b v = fold_last s b (10 * v + (a - 48))

-- the digits are those of a tenth, and the last
digits_one : (k n : ℕ) → n < 10 → decimal_in (suc k) n ≡ (48 + n % 10) ∷ []
unfolding decimal_in
digits_one k n h = rw (lt-ltb n 10 h)

digits_more : (k n : ℕ) → 10 ≤ n → decimal_in (suc k) n ≡ decimal_in k (n / 10) ++ ((48 + n % 10) ∷ [])
unfolding decimal_in
digits_more k n h = rw (le-ltb n 10 h)

tenth : (k n : ℕ) → n < 10 ^ suc k → n / 10 < 10 ^ k
tenth k n h = (div-lt_iff_lt-mul {k = 10} (omega arith)).1 (rw pow-suc at h)

value_is : (k n : ℕ) → n < 10 ^ k → digits_value (decimal_in k n) ≡ n
unfolding decimal_in
value_is zero n h = omega arith
value_is (suc k) n h =
    ⊎_elim
    (λ (l : n < 10). rw (digits_one k n l) (omega arith))
    (λ (l : 10 ≤ n). rw (digits_more k n l) (fold_last (decimal_in k (n / 10)) (48 + n % 10) 0 ∙ omega (arith, value_is k (n / 10) (tenth k n h))))
    (cases_lt n 10)

all_digits : (k n : ℕ) → All (λ (b : ℕ). (48 ≤ b) × (b ≤ 57)) (decimal_in k n)
unfolding decimal_in
all_digits zero n = tt
all_digits (suc k) n =
    ⊎_elim
    (λ (l : n < 10). rw (digits_one k n l) ((omega arith, omega arith), tt))
    (λ (l : 10 ≤ n). rw (digits_more k n l) (all_append _ (decimal_in k (n / 10)) ((48 + n % 10) ∷ []) (all_digits k (n / 10)) ((omega arith, omega arith), tt)))
    (cases_lt n 10)

-- the first digit of a number that is not 0 is not 0
abbrev Leads : List ℕ → Type 0
Leads [] = ⊥
Leads (b ∷ s) = 48 < b

leads_more : (s t : List ℕ) → Leads s → Leads (s ++ t)
leads_more [] t h = absurd h
leads_more (b ∷ s) t h = h

leads : (k n : ℕ) → 0 < n → n < 10 ^ k → Leads (decimal_in k n)
leads zero n z h = absurd (omega arith)
leads (suc k) n z h =
    ⊎_elim
    (λ (l : n < 10). rw (digits_one k n l) (omega arith))
    (λ (l : 10 ≤ n). rw (digits_more k n l) (leads_more (decimal_in k (n / 10)) ((48 + n % 10) ∷ []) (leads k (n / 10) (omega arith) (tenth k n h))))
    (cases_lt n 10)

no_zero : (n : ℕ) → n < 10 ^ 20 → (t : List ℕ) → decimal n ≡ 48 ∷ t → t ≡ []
no_zero zero h t e = let same : (48 ∷ []) ≡ 48 ∷ t = sym (digits_one 19 0 (omega arith)) ∙ e in ap drop_first (sym same)
  where
    drop_first : List ℕ → List ℕ
    drop_first [] = []
    drop_first (b ∷ s) = s
no_zero (suc n) h t e = let l : Leads (48 ∷ t) = rw e at (leads 20 (suc n) (omega arith) h) in absurd (omega (arith, l))

pub decimal_back : DecimalBack
decimal_back n h = record { digits = all_digits 20 n; value = value_is 20 n h; shortest = no_zero n h }
