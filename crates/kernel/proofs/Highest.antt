-- What `dispatch` finds: the highest priority of the released jobs, and within it the job furthest back. Assumes nothing.
use Prim.Native.Nat.{ℕ, ◌≤◌, ◌<◌}
use mathlib.Core.Path.{◌≡◌, refl, sym, ap, ◌∙◌, subst⁻¹}
use mathlib.Core.Bool.{Bool, true, false}
use mathlib.Core.List.{List, [], ◌∷◌, ◌++◌, append_assoc, append-nil}
use native.Mathlib.Omega.{arith}
use borrow.Author.Tests.{ltb-true, ltb-false, leb-true, leb-false}
use lib.ListN.{length, length-append}
use lib.Seq.{append_snoc}
use Rattle.rules.specs.declared.Phase.{Phase}
use Rattle.rules.specs.declared.Phase.TheVariants.{Delayed, Released}
use Rattle.rules.specs.declared.Line.{Line}
use Rattle.rules.specs.declared.Job.{Job as Entry}
use Rattle.rules.specs.Words.{All}
use Rattle.rules.proofs.Lists.{all_map, all_append}
use Rattle.std.specs.Prelude.{Some, None}
use Rattle.kernel.specs.declared.Best.{Best}
use Rattle.kernel.specs.Dispatch.{Found, priority_in, takes_over, better_of, best_from, no_best, dispatch_of}
use Rattle.kernel.specs.Claims.{Highest, Chosen, DispatchIsHighest}
use Rattle.kernel.proofs.Laws.{better_delayed, better_taken, better_left}

-- what a test tells
ruleset told = (ltb-true, ltb-false, leb-true, leb-false, arith)

not_both : (s : Phase) → s ≡ Delayed → s ≡ Released → ⊥
not_both s d r = let z : ◌≡◌ {A = ℕ} 0 1 = cc in omega arith

module _ (lines : List Line) where
  -- what is found is the best of xs, and t is its priority
  abbrev IsBest : List Entry → Found → ℕ → Type 0
  IsBest xs None t = Chosen lines xs None × (t ≡ 0)
  IsBest xs (Some k) t = (h : Highest lines xs k) × (priority_in lines h.job ≡ t)

  -- one job more, x
  module _ (xs : List Entry) (x : Entry) where
    -- where it is delayed or lower, the best stays the best
    stays : (f : Found) (t : ℕ) → IsBest xs f t → (x.phase ≡ Released → priority_in lines x < t) → IsBest (xs ++ (x ∷ [])) f t
    stays None t b low = (all_append (λ (y : Entry). y.phase ≡ Delayed) xs (x ∷ []) b.0 (delayed x.phase refl, tt), b.1)
      where
        delayed : (s : Phase) → x.phase ≡ s → x.phase ≡ Delayed
        delayed Delayed e = e
        delayed Released e = absurd (omega (arith, low e, b.1))
    stays (Some k) t b low =
        let h = b.0 in (
          record {
            front = h.front;
            job = h.job;
            back = h.back ++ (x ∷ []);
            among = ap (λ z. z ++ (x ∷ [])) h.among ∙ append_assoc h.front (h.job ∷ h.back) (x ∷ []);
            place = h.place;
            is_released_lem = h.is_released_lem;
            in_front_lem = h.in_front_lem;
            behind = all_append (λ (y : Entry). y.phase ≡ Released → priority_in lines y < priority_in lines h.job) h.back (x ∷ []) h.behind (λ r. omega (arith, low r, b.1), tt);
          },
          b.1,
        )

    -- so far no released job is higher than the best
    none_higher : (f : Found) (t : ℕ) → IsBest xs f t → All (λ (y : Entry). y.phase ≡ Released → priority_in lines y ≤ t) xs
    none_higher None t b = all_map (λ y d r. absurd (not_both y.phase d r)) xs b.0
    none_higher (Some k) t b =
        let h = b.0 in
        subst⁻¹ (All (λ (y : Entry). y.phase ≡ Released → priority_in lines y ≤ t)) h.among
        (all_append (λ (y : Entry). y.phase ≡ Released → priority_in lines y ≤ t) h.front (h.job ∷ h.back)
        (all_map (λ y a r. omega (arith, a r, b.1)) h.front h.in_front_lem)
        (λ r. omega (arith, b.1), all_map (λ y a r. omega (arith, a r, b.1)) h.back h.behind))

    -- where it is released and at least as high, it is the best
    takes : (f : Found) (t : ℕ) → IsBest xs f t → x.phase ≡ Released → t ≤ priority_in lines x → IsBest (xs ++ (x ∷ [])) (Some (length xs)) (priority_in lines x)
    takes f t b r high = (
      record {
        front = xs;
        job = x;
        back = [];
        among = refl;
        place = refl;
        is_released_lem = r;
        in_front_lem = all_map (λ y a q. omega (arith, a q)) xs (none_higher f t b);
        behind = tt;
      },
      refl,
    )

    -- `better` keeps the best: the one place where the rule is opened
    one_more : (b : Best) → IsBest xs b.found b.top → IsBest (xs ++ (x ∷ [])) (better_of lines (length xs) b x).found (better_of lines (length xs) b x).top
    one_more b h = go x.phase refl (takes_over (priority_in lines x) b.top) refl
      where
        go : (s : Phase) → x.phase ≡ s → (t : Bool) → takes_over (priority_in lines x) b.top ≡ t → IsBest (xs ++ (x ∷ [])) (better_of lines (length xs) b x).found (better_of lines (length xs) b x).top
        go Delayed e t p = rw (sym (better_delayed lines (length xs) b x e)) (stays b.found b.top h (λ r. absurd (not_both x.phase e r)))
        go Released e true p = rw (sym (better_taken lines (length xs) b x _ e refl p)) (takes b.found b.top h e (omega told))
        go Released e false p = rw (sym (better_left lines (length xs) b x _ e refl p)) (stays b.found b.top h (λ r. omega told))

  -- and so does the scan, from any place on
  all_more : (ys xs : List Entry) (b : Best) → IsBest xs b.found b.top → IsBest (xs ++ ys) (best_from lines (length xs) b ys).found (best_from lines (length xs) b ys).top
  unfolding best_from
  all_more [] xs b h = rw (append-nil xs) h
  all_more (y ∷ ys) xs b h =
      let j = all_more ys (xs ++ (y ∷ [])) (better_of lines (length xs) b y) (one_more xs y b h) in
      rw (append_snoc xs y ys, length-append xs (y ∷ [])) at j

  chosen : (xs : List Entry) (f : Found) (t : ℕ) → IsBest xs f t → Chosen lines xs f
  chosen xs None t b = b.0
  chosen xs (Some k) t b = b.0

pub dispatch_is_highest : DispatchIsHighest
unfolding dispatch_of
dispatch_is_highest lines xs =
    let b = best_from lines 0 no_best xs in
    chosen lines xs b.found b.top (all_more lines xs [] no_best (tt, refl))
