-- A loop that takes the first elements of an array over into another, where those behind them are there. Assumes nothing.
use Prim.Native.Nat.{ℕ, ◌+◌, ◌-◌, ◌<◌, ◌≤◌}
use mathlib.Core.Path.{◌≡◌, sym, ap, ◌∙◌, subst}
use mathlib.Core.List.{List, ◌++◌, map}
use native.Mathlib.Numerals.{add-one}
use native.Mathlib.Omega.{arith}
use lib.ListN.{length, take, drop, set, get_or, length-map, get_or-map, take-append-drop}
use lib.Seq.{take-suc, take-suc-set, drop-set-lt, drop-drop}

-- what is the same behind a place is so behind each later one
pub same_behind : {A : Type 0} (l m : List A) (n i : ℕ) → n ≤ i → drop n l ≡ drop n m → drop i l ≡ drop i m
same_behind l m n i h e =
    let k : n + (i - n) ≡ i = omega (arith, h) in
    subst (λ (j : ℕ). drop j l ≡ drop j m) k (sym (drop-drop (i - n) n l) ∙ ap (drop (i - n)) e ∙ drop-drop (i - n) n m)

-- up to place i they are taken over; from there on they are as before
abbrev pub Copied : {A B : Type 0} → (A → B) → List A → List B → ℕ → List B → Type 0
Copied f xs ys₀ i ys = (length ys ≡ length xs) × (take i ys ≡ take i (map f xs)) × (drop i ys ≡ drop i ys₀)

module _ {A B : Type 0} (f : A → B) (xs : List A) (ys₀ ys : List B) (i : ℕ) (so_far : Copied f xs ys₀ i ys) where
  -- one more
  pub copied_turn : (d : A) → i < length xs → take (i + 1) (set ys i (f (get_or xs i d))) ≡ take (i + 1) (map f xs)
  copied_turn d h =
      let k : i < length ys = omega (arith, so_far.0) in
      let m : i < length (map f xs) = simp length-map h in
      rw (add-one, take-suc-set ys i (f (get_or xs i d)) k, take-suc (map f xs) i (f d) m, get_or-map f xs i d, so_far.1)

  pub behind_turn : (y : B) → drop (i + 1) (set ys i y) ≡ drop (i + 1) ys₀
  behind_turn y = drop-set-lt (i + 1) ys i y (omega arith) ∙ same_behind ys ys₀ i (i + 1) (omega arith) so_far.2

  -- all of them
  pub copied_end : (n : ℕ) → n ≤ i → drop n ys₀ ≡ drop n (map f xs) → ys ≡ map f xs
  copied_end n h e =
      let m : take i ys ++ drop i ys ≡ take i (map f xs) ++ drop i (map f xs) = rw (so_far.1, so_far.2, same_behind ys₀ (map f xs) n i h e) in
      sym (take-append-drop i ys) ∙ m ∙ take-append-drop i (map f xs)
