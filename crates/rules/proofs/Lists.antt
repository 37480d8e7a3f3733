-- Facts on lists. Assumes nothing.
use Prim.Native.Nat.{ℕ, suc, ◌+◌, ◌≤◌}
use mathlib.Core.Path.{◌≡◌, refl, ap, ◌∙◌}
use mathlib.Core.Bool.{Bool, true, false, cond, ◌&&◌}
use mathlib.Core.List.{List, [], ◌∷◌, ◌++◌, map}
use lib.ListN.{length, set}
use lib.Seq.{sets}
use native.Mathlib.Omega.{arith}
use native.Mathlib.Nat.{add-zero, add-suc, suc-add}
use Rattle.rules.specs.Words.{count_by, only, insert_by, All, Pairs}

abbrev pub rest_of {ℓ} : {A : Type ℓ} → List A → List A
rest_of [] = []
rest_of (a ∷ l) = l

-- ---- facts of every element

pub all_map {ℓ} : {A : Type ℓ} {P Q : A → Type 0} → ((a : A) → P a → Q a) → (l : List A) → All P l → All Q l
all_map f [] h = tt
all_map f (a ∷ l) h = (f a h.0, all_map f l h.1)

-- the same of what a function makes of each
pub all_over {ℓ κ} : {A : Type ℓ} {B : Type κ} (P : A → Type 0) (Q : B → Type 0) (f : A → B) → ((a : A) → P a → Q (f a)) → (l : List A) → All P l → All Q (map f l)
all_over P Q f g [] h = tt
all_over P Q f g (a ∷ l) h = (g a h.0, all_over P Q f g l h.1)

pub pairs_over {ℓ κ} : {A : Type ℓ} {B : Type κ} (R : A → A → Type 0) (S : B → B → Type 0) (f : A → B) → ((a b : A) → R a b → S (f a) (f b)) → (l : List A) → Pairs R l → Pairs S (map f l)
pairs_over R S f g [] h = tt
pairs_over R S f g (a ∷ l) h = (all_over (R a) (S (f a)) f (g a) l h.0, pairs_over R S f g l h.1)

pub all_append {ℓ} : {A : Type ℓ} (P : A → Type 0) (l m : List A) → All P l → All P m → All P (l ++ m)
all_append P [] m h k = k
all_append P (a ∷ l) m h k = (h.0, all_append P l m h.1 k)

-- ---- insertion

pub all_insert {ℓ} : {A : Type ℓ} (P : A → Type 0) (r : A → A → Bool) (a : A) (l : List A) → P a → All P l → All P (insert_by r a l)
all_insert P r a [] pa h = (pa, tt)
all_insert P r a (b ∷ l) pa h = go (r a b) (all_insert P r a l pa h.1)
  where
    go : (t : Bool) → All P (insert_by r a l) → All P (cond t (a ∷ b ∷ l) (b ∷ insert_by r a l))
    go true ih = (pa, h)
    go false ih = (h.0, ih)

pub map_insert {ℓ κ} : {A : Type ℓ} {B : Type κ} (f : A → B) (r : B → B → Bool) (a : A) (l : List A)
    → map f (insert_by (λ x y. r (f x) (f y)) a l) ≡ insert_by r (f a) (map f l)
map_insert f r a [] = refl
map_insert f r a (b ∷ l) = go (r (f a) (f b)) (map_insert f r a l)
  where
    go : (t : Bool) → map f (insert_by (λ x y. r (f x) (f y)) a l) ≡ insert_by r (f a) (map f l)
        → map f (cond t (a ∷ b ∷ l) (b ∷ insert_by (λ x y. r (f x) (f y)) a l)) ≡ cond t (f a ∷ f b ∷ map f l) (f b ∷ insert_by r (f a) (map f l))
    go true ih = refl
    go false ih = ap (λ z. f b ∷ z) ih

pub length_insert {ℓ} : {A : Type ℓ} (r : A → A → Bool) (a : A) (l : List A) → length (insert_by r a l) ≡ suc (length l)
length_insert r a [] = refl
length_insert r a (b ∷ l) = go (r a b) (length_insert r a l)
  where
    go : (t : Bool) → length (insert_by r a l) ≡ suc (length l) → length (cond t (a ∷ b ∷ l) (b ∷ insert_by r a l)) ≡ suc (suc (length l))
    go true ih = refl
    go false ih = ap suc ih

-- ---- counting

-- the order of two elements does not count
swapped : (s t : Bool) (k : ℕ) → cond s (suc (cond t (suc k) k)) (cond t (suc k) k) ≡ cond t (suc (cond s (suc k) k)) (cond s (suc k) k)
swapped true true k = refl
swapped true false k = refl
swapped false true k = refl
swapped false false k = refl

-- an insertion in the middle counts as one at the front
pub count_insert {ℓ} : {A : Type ℓ} (f : A → Bool) (r : A → A → Bool) (a : A) (l : List A) → count_by f (insert_by r a l) ≡ count_by f (a ∷ l)
count_insert f r a [] = refl
count_insert f r a (b ∷ l) = go (r a b) (count_insert f r a l)
  where
    go : (t : Bool) → count_by f (insert_by r a l) ≡ count_by f (a ∷ l) → count_by f (cond t (a ∷ b ∷ l) (b ∷ insert_by r a l)) ≡ count_by f (a ∷ b ∷ l)
    go true ih = refl
    go false ih = ap (λ z. cond (f b) (suc z) z) ih ∙ swapped (f b) (f a) (count_by f l)

pub count_map {ℓ κ} : {A : Type ℓ} {B : Type κ} (f : B → Bool) (g : A → B) (l : List A) → count_by f (map g l) ≡ count_by (λ a. f (g a)) l
count_map f g [] = refl
count_map f g (a ∷ l) = ap (λ z. cond (f (g a)) (suc z) z) (count_map f g l)

pub count_append {ℓ} : {A : Type ℓ} (f : A → Bool) (l m : List A) → count_by f (l ++ m) ≡ count_by f l + count_by f m
count_append f [] m = omega arith
count_append f (a ∷ l) m = go (f a) (count_append f l m)
  where
    go : (t : Bool) → count_by f (l ++ m) ≡ count_by f l + count_by f m → cond t (suc (count_by f (l ++ m))) (count_by f (l ++ m)) ≡ cond t (suc (count_by f l)) (count_by f l) + count_by f m
    go true ih = omega arith
    go false ih = ih

-- one element more
pub count_front {ℓ} : {A : Type ℓ} (f : A → Bool) (a : A) (l : List A) → count_by f (a ∷ l) ≡ count_by f (a ∷ []) + count_by f l
count_front f a l = go (f a)
  where
    go : (t : Bool) → cond t (suc (count_by f l)) (count_by f l) ≡ cond t 1 0 + count_by f l
    go true = omega arith
    go false = omega arith

pub count_only {ℓ} : {A : Type ℓ} (f g : A → Bool) (l : List A) → count_by f (only g l) ≡ count_by (λ a. g a && f a) l
count_only f g [] = refl
count_only f g (a ∷ l) = go (g a) (count_only f g l)
  where
    go : (t : Bool) → count_by f (only g l) ≡ count_by (λ a. g a && f a) l → count_by f (cond t (a ∷ only g l) (only g l)) ≡ cond (t && f a) (suc (count_by (λ a. g a && f a) l)) (count_by (λ a. g a && f a) l)
    go true ih = ap (λ z. cond (f a) (suc z) z) ih
    go false ih = ih

-- a count in two parts
pub count_split {ℓ} : {A : Type ℓ} (f g h : A → Bool) → ((a : A) → cond (f a) 1 0 + cond (g a) 1 0 ≡ cond (h a) 1 0) → (l : List A) → count_by f l + count_by g l ≡ count_by h l
count_split f g h e [] = refl
count_split f g h e (a ∷ l) = omega (arith, e a, count_split f g h e l, count_front f a l, count_front g a l, count_front h a l)

-- two tests that agree on each element count alike
pub count_alike {ℓ} : {A : Type ℓ} (f g : A → Bool) (l : List A) → All (λ (a : A). f a ≡ g a) l → count_by f l ≡ count_by g l
count_alike f g [] h = refl
count_alike f g (a ∷ l) h = λ i. cond (h.0 i) (suc (count_alike f g l h.1 i)) (count_alike f g l h.1 i)

-- fewer pass a second test too
pub count_both {ℓ} : {A : Type ℓ} (f g : A → Bool) (l : List A) → count_by (λ a. g a && f a) l ≤ count_by f l
count_both f g [] = omega arith
count_both f g (a ∷ l) = go (g a) (f a) (count_both f g l)
  where
    go : (s t : Bool) → count_by (λ a. g a && f a) l ≤ count_by f l → cond (s && t) (suc (count_by (λ a. g a && f a) l)) (count_by (λ a. g a && f a) l) ≤ cond t (suc (count_by f l)) (count_by f l)
    go true true h = omega arith
    go true false h = h
    go false true h = omega arith
    go false false h = h

-- ---- a buffer

-- to store bytes and then others behind them is to store them all
pub sets_append : (buf : List ℕ) (i : ℕ) (xs ys : List ℕ) → sets (sets buf i xs) (i + length xs) ys ≡ sets buf i (xs ++ ys)
sets_append buf i [] ys = rw add-zero
sets_append buf i (x ∷ xs) ys = rw (add-suc i, ← suc-add i) (sets_append (set buf i x) (suc i) xs ys)
