-- The plain scheduler runs the earliest absolute deadline, the first accepted of equal ones. Assumes nothing.
use mathlib.Core.Path.{◌≡◌, refl, ap, subst⁻¹}
use mathlib.Core.Logic.{inl, inr}
use mathlib.Core.Bool.{Bool, true, false, cond}
use mathlib.Core.List.{List, [], ◌∷◌, ◌++◌}
use Rattle.rules.specs.Words.{All}
use Rattle.rules.specs.Table.{Table}
use Rattle.rules.specs.Jobs.{Pending, Before, before}
use Rattle.rules.specs.Plain.{earliest, rest}
use Rattle.rules.specs.Statement.{PlainIsEdf}
use Rattle.rules.proofs.Order.{before_true, before_false, passing, asymmetric, not_earlier, due_later}
use Rattle.rules.proofs.Lists.{all_map, all_append}

-- e runs of the pending jobs p: what the order says of it
record Picked (T : Table) (p : List Pending) (e : Pending) (r : List Pending) : Type 0 where
  newer : List Pending
  older : List Pending
  among : p ≡ newer ++ (e ∷ older)
  others : r ≡ newer ++ older
  not_sooner : All (λ (j : Pending). Before T j e → ⊥) newer
  first : All (λ (j : Pending). Before T e j) older

-- a newer job runs if it goes before what ran so far
newer_runs : (T : Table) (j e : Pending) (p r : List Pending) → Before T j e → Picked T p e r → Picked T (j ∷ p) j p
newer_runs T j e p r h c =
    record {
      newer = [];
      older = p;
      among = refl;
      others = refl;
      not_sooner = tt;
      first =
          subst⁻¹ (All (Before T j)) c.among
          (all_append (Before T j) c.newer (e ∷ c.older)
          (all_map (λ k n. passing T j e k h n) c.newer c.not_sooner)
          (h, all_map (λ k n. passing T j e k h (asymmetric T e k n)) c.older c.first));
    }

-- and waits if it does not
newer_waits : (T : Table) (j e : Pending) (p r : List Pending) → (Before T j e → ⊥) → Picked T p e r → Picked T (j ∷ p) e (j ∷ r)
newer_waits T j e p r h c =
    record {
      newer = j ∷ c.newer;
      older = c.older;
      among = ap (λ z. j ∷ z) c.among;
      others = ap (λ z. j ∷ z) c.others;
      not_sooner = (h, c.not_sooner);
      first = c.first;
    }

picked : (T : Table) (j : Pending) (p : List Pending) → Picked T (j ∷ p) (earliest T j p) (rest T j p)
picked T j [] = record { newer = []; older = []; among = refl; others = refl; not_sooner = tt; first = tt }
picked T j (k ∷ p) = go (before T j (earliest T k p)) refl (picked T k p)
  where
    go : (t : Bool) → before T j (earliest T k p) ≡ t → Picked T (k ∷ p) (earliest T k p) (rest T k p)
        → Picked T (j ∷ k ∷ p) (cond t j (earliest T k p)) (cond t (k ∷ p) (j ∷ rest T k p))
    go true e c = newer_runs T j (earliest T k p) (k ∷ p) (rest T k p) (before_true T j (earliest T k p) e) c
    go false e c = newer_waits T j (earliest T k p) (k ∷ p) (rest T k p) (before_false T j (earliest T k p) e) c

-- the order is by deadline
pub plain_is_edf : PlainIsEdf
plain_is_edf T [] = inl (refl, refl)
plain_is_edf T (j ∷ p) =
    let c = picked T j p in
    inr
    (record {
      newer = c.newer;
      job = earliest T j p;
      older = c.older;
      among = c.among;
      runs = refl;
      of_task = refl;
      others = c.others;
      earliest = all_map (λ k n. not_earlier T k (earliest T j p) n) c.newer c.not_sooner;
      first = all_map (λ k n. due_later T (earliest T j p) k n) c.older c.first;
    })
