-- In a list that is in order the search from the back finds the place that the search from the front finds. Assumes nothing.
use Prim.Native.Nat.{suc, ◌-◌, ◌≤◌, min}
use mathlib.Core.Path.{◌≡◌, refl, sym, ap, ◌∙◌}
use mathlib.Core.Bool.{Bool, true, false, cond}
use mathlib.Core.List.{List, [], ◌∷◌, ◌++◌, map, reverse, reverse-cons, reverse-append}
use lib.ListN.{length, take, drop, length-append, length-reverse}
use native.Mathlib.Omega.{arith}
use Rattle.rules.specs.Words.{insert_by, All, Pairs}
use Rattle.rules.specs.Table.{Table}
use Rattle.rules.specs.Jobs.{Pending, bare, before, InOrder}
use Rattle.rules.specs.Layer.{fresh}
use Rattle.rules.specs.Run.{run}
use Rattle.rules.specs.Search.{from_front, backwards, from_back, reads_of, FoundFromBack, PlaceFromBack, ListFromBack}
use Rattle.rules.proofs.Lists.{all_map, all_append}
use Rattle.rules.proofs.Order.{not_before, through}
use Rattle.rules.proofs.Listing.{list_in_order}

-- ---- for any elements

-- what goes before an element goes before each that doesn't go before that one
abbrev pub Orders {ℓ} : {A : Type ℓ} → (A → A → Bool) → Type ℓ
Orders {A = A} goes = (a b c : A) → goes a b ≡ true → goes c b ≡ false → goes a c ≡ true

-- none goes before one that stands in front of it
abbrev pub SortedBy {ℓ} : {A : Type ℓ} → (A → A → Bool) → List A → Type 0
SortedBy {A = A} goes l = Pairs (λ (x y : A). goes y x ≡ false) l

module _ {A : Type 0} (goes : A → A → Bool) where
  -- the last element of a list is read first
  pub back_last : (a : A) (l : List A) (b : A) → from_back goes a (l ++ (b ∷ [])) ≡ cond (goes a b) (from_back goes a l) (suc (length l))
  back_last a l b =
      ap (backwards goes a) (reverse-append l (b ∷ [])) ∙ ap (λ n. cond (goes a b) (from_back goes a l) (suc n)) (length-reverse l)

  -- the first is read last: where a doesn't go before it, a's place is behind it
  back_first : (a b : A) → goes a b ≡ false → (m : List A) → backwards goes a (m ++ (b ∷ [])) ≡ suc (backwards goes a m)
  back_first a b e [] = rw e
  back_first a b e (c ∷ m) = go (goes a c) (back_first a b e m)
    where
      go : (t : Bool) → backwards goes a (m ++ (b ∷ [])) ≡ suc (backwards goes a m)
          → cond t (backwards goes a (m ++ (b ∷ []))) (suc (length (m ++ (b ∷ [])))) ≡ suc (cond t (backwards goes a m) (suc (length m)))
      go true ih = ih
      go false ih = omega (arith, length-append m (b ∷ []))

  -- an element that goes before all is in front of all
  back_all : (a : A) (m : List A) → All (λ (b : A). goes a b ≡ true) m → backwards goes a m ≡ 0
  back_all a [] h = refl
  back_all a (b ∷ m) h = rw h.0 (back_all a m h.1)

  all_reverse : (P : A → Type 0) (l : List A) → All P l → All P (reverse l)
  all_reverse P [] h = tt
  all_reverse P (b ∷ l) h = rw (reverse-cons b l) (all_append P (reverse l) (b ∷ []) (all_reverse P l h.1) (h.0, tt))

  pub same_place : Orders goes → (a : A) (l : List A) → SortedBy goes l → from_back goes a l ≡ from_front goes a l
  same_place orders a [] o = refl
  same_place orders a (b ∷ l) o = go (goes a b) refl (same_place orders a l o.1)
    where
      go : (t : Bool) → goes a b ≡ t → from_back goes a l ≡ from_front goes a l → from_back goes a (b ∷ l) ≡ cond t 0 (suc (from_front goes a l))
      go true e ih = back_all a (reverse (b ∷ l)) (all_reverse (λ (c : A). goes a c ≡ true) (b ∷ l) (e, all_map (λ c n. orders a b c e n) l o.0))
      go false e ih = ap (backwards goes a) (reverse-cons b l) ∙ back_first a b e (reverse l) ∙ ap suc ih

  -- an insertion, by its place
  pub insert_at : (a : A) (l : List A) → insert_by goes a l ≡ take (from_front goes a l) l ++ (a ∷ drop (from_front goes a l) l)
  insert_at a [] = refl
  insert_at a (b ∷ l) = go (goes a b) (insert_at a l)
    where
      go : (t : Bool) → insert_by goes a l ≡ take (from_front goes a l) l ++ (a ∷ drop (from_front goes a l) l)
          → cond t (a ∷ b ∷ l) (b ∷ insert_by goes a l) ≡ take (cond t 0 (suc (from_front goes a l))) (b ∷ l) ++ (a ∷ drop (cond t 0 (suc (from_front goes a l))) (b ∷ l))
      go true ih = refl
      go false ih = ap (λ (z : List A). b ∷ z) ih

  back_most : (a : A) (m : List A) → backwards goes a m ≤ length m
  back_most a [] = omega arith
  back_most a (b ∷ m) = go (goes a b) (back_most a m)
    where
      go : (t : Bool) → backwards goes a m ≤ length m → cond t (backwards goes a m) (suc (length m)) ≤ suc (length m)
      go true ih = omega arith
      go false ih = omega arith

  reads_are : (a : A) (m : List A) → reads_of goes a m ≡ min (length m) (suc (length m - backwards goes a m))
  reads_are a [] = refl
  reads_are a (b ∷ m) = go (goes a b) (reads_are a m) (back_most a m)
    where
      go : (t : Bool) → reads_of goes a m ≡ min (length m) (suc (length m - backwards goes a m)) → backwards goes a m ≤ length m
          → suc (cond t (reads_of goes a m) 0) ≡ min (suc (length m)) (suc (suc (length m) - cond t (backwards goes a m) (suc (length m))))
      go true ih h = omega arith
      go false ih h = omega arith

  found : Orders goes → (a : A) (l : List A) → SortedBy goes l → FoundFromBack goes a l
  found orders a l o =
      let e : from_back goes a l ≡ from_front goes a l = same_place orders a l o in
      record {
        same = e;
        there = insert_at a l ∙ ap (λ n. take n l ++ (a ∷ drop n l)) (sym e);
        reads = reads_are a (reverse l) ∙ ap (λ n. min n (suc (n - from_back goes a l))) (length-reverse l);
      }

-- ---- for the list

tested : (T : Table) (l : List Pending) → InOrder T l → SortedBy (before T) l
tested T [] o = tt
tested T (k ∷ l) o = (all_map (λ m d. not_before T m k d) l o.0, tested T l o.1)

pub place_from_back : PlaceFromBack
place_from_back T j l o = found (before T) (through T) j l (tested T l o)

pub list_from_back : ListFromBack
list_from_back T calls j = place_from_back T j (map bare (run T fresh calls).jobs) (list_in_order T calls)
