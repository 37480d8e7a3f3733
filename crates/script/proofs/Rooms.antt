-- Bytes put one behind the other, as far as there is room. Assumes nothing.
use Rattle.std.proofs.Common.{◌≡◌, ℕ, zero, suc, ◌+◌, ◌<◌, List, [], ◌∷◌, ◌++◌, length, get_or, take, refl, sym, ap, ◌∙◌, append_assoc}
use Rattle.std.proofs.lemmas.List.{take_more}

-- what was cut off before is cut off after
cut_before : (n : ℕ) (x y : List ℕ) → take n (take n x ++ y) ≡ take n (x ++ y)
cut_before zero x y = refl
cut_before (suc n) [] y = refl
cut_before (suc n) (a ∷ x) y = ap (◌∷◌ a) (cut_before n x y)

-- one byte more
pub one_more : (n : ℕ) (old bytes : List ℕ) (i : ℕ) → i < length bytes → take n (take n (old ++ take i bytes) ++ get_or bytes i 0 ∷ []) ≡ take n (old ++ take (i + 1) bytes)
one_more n old bytes i h = cut_before n (old ++ take i bytes) (get_or bytes i 0 ∷ []) ∙ ap (take n) (append_assoc old (take i bytes) (get_or bytes i 0 ∷ []) ∙ ap (λ (x : List ℕ). old ++ x) (sym (take_more bytes i 0 h)))
