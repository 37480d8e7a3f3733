-- The list on any table: in order, its first job released, the ready queue the released jobs; and what each call does to it. Assumes nothing.
use Prim.Native.Nat.{ℕ}
use mathlib.Core.Path.{◌≡◌, refl, ap, subst⁻¹, ◌∙◌}
use mathlib.Core.Bool.{Bool, true, false, cond}
use mathlib.Core.List.{List, [], ◌∷◌, map}
use Rattle.rules.specs.declared.Phase.TheVariants.{Released}
use Rattle.rules.specs.declared.Call.{Call}
use Rattle.rules.specs.declared.Call.TheVariants.{Wait, Activate, Terminate, Chain}
use Rattle.rules.specs.Words.{unless, insert_by, Pairs}
use Rattle.rules.specs.Table.{Table}
use Rattle.rules.specs.Jobs.{Job, Pending, bare, Before, before, InOrder}
use Rattle.rules.specs.Calls.{tick_of}
use Rattle.rules.specs.Layer.{Board, fresh, running, without, marked, done, result, next}
use Rattle.rules.specs.Run.{run}
use Rattle.rules.specs.History.{job_of}
use Rattle.rules.specs.Statement.{ListHolds, Inserted, ListAfter, ListMoves}
use Rattle.rules.proofs.Lists.{all_map, pairs_over}
use Rattle.rules.proofs.Moves.{pairs_without}
use Rattle.rules.proofs.Bare.{bare_after, moved_bare}
use Rattle.rules.proofs.Order.{Other, others, before_true, before_false, passing}
use Rattle.rules.proofs.Invariant.{Ahead, Ordered, Good}
use Rattle.rules.proofs.Step.{fresh_good}

module _ (T : Table) where
  in_order : (l : List Job) → Ordered T Other l → Pairs (λ (j k : Job). Before T (bare k) (bare j) → ⊥) l
  in_order [] o = tt
  in_order (j ∷ l) o = (all_map (λ k a. before_false T (bare k) (bare j) a.order) l o.0, in_order l o.1)

  one_each : (l : List Job) → Ordered T Other l → Pairs (λ (j k : Job). j.phase ≡ Released → k.phase ≡ Released → j.task ≡ k.task → ⊥) l
  one_each [] o = tt
  one_each (j ∷ l) o = (all_map (λ k a r s. a.over s) l o.0, one_each l o.1)

pub list_holds : ListHolds
list_holds T calls =
    let g = fresh_good T Other (others T) calls in
    let l = (run T fresh calls).jobs in
    record {
      dues = all_map (λ j s. s.made.dues) l g.sound;
      ordered = in_order T l g.lined.ordered;
      first = g.lined.first;
      queue = g.lined.queue;
      one_each = one_each T l g.lined.ordered;
    }

-- ---- what each call does to it

module _ (T : Table) where
  sorted : (l : List Job) → Ordered T Other l → InOrder T (map bare l)
  sorted l o =
      pairs_over (λ j k. Ahead T Other (bare j) k) (λ (j k : Pending). Before T k j → ⊥) bare (λ j k a. before_false T (bare k) (bare j) a.order) l o

  -- a new job goes in front of the first job that it goes before, and so before all behind that one
  inserts : (j : Pending) (l : List Pending) → InOrder T l → Inserted T j l (insert_by (before T) j l)
  inserts j [] o = record { front = []; back = []; was = refl; is = refl; behind = tt; ahead = tt }
  inserts j (k ∷ l) o = go (before T j k) refl (inserts j l o.1)
    where
      go : (t : Bool) → before T j k ≡ t → Inserted T j l (insert_by (before T) j l) → Inserted T j (k ∷ l) (cond t (j ∷ k ∷ l) (k ∷ insert_by (before T) j l))
      go true e h =
          let f = before_true T j k e in
          record { front = []; back = k ∷ l; was = refl; is = refl; behind = tt; ahead = (f, all_map (λ m a. passing T j k m f a) l o.0) }
      go false e h =
          record {
            front = k ∷ h.front;
            back = h.back;
            was = ap (λ z. k ∷ z) h.was;
            is = ap (λ z. k ∷ z) h.is;
            behind = (before_false T j k e, h.behind);
            ahead = h.ahead;
          }

  after_is : (b : Board) → Good T Other b → (e : Call) → ListAfter T b e (bare_after T (running T b) b.jobs e)
  after_is b g (Wait t) = refl
  after_is b g (Activate t n) = inserts (job_of T t n) (map bare b.jobs) (sorted b.jobs g.lined.ordered)
  after_is b g (Terminate t) = refl
  after_is b g (Chain t n) =
      inserts (job_of T t n) (map bare (without (running T b) b.jobs))
      (sorted (without (running T b) b.jobs) (pairs_without (λ i j. Ahead T Other (bare i) j) (running T b) b.jobs g.lined.ordered))

  next_list : (b : Board) (e : Call) → result T b e ≡ 0 → map bare (next T b e).jobs ≡ bare_after T (running T b) b.jobs e
  next_list b e z = ap (λ (k : ℕ). map bare (unless k b (done T (marked (tick_of e) b) e)).jobs) z ∙ moved_bare T (running T b) b.jobs e

pub list_moves : ListMoves
list_moves T calls e z =
    subst⁻¹ (ListAfter T (run T fresh calls) e) (next_list T (run T fresh calls) e z) (after_is T (run T fresh calls) (fresh_good T Other (others T) calls) e)

pub list_in_order : (T : Table) (calls : List Call) → InOrder T (map bare (run T fresh calls).jobs)
list_in_order T calls = sorted T (run T fresh calls).jobs (fresh_good T Other (others T) calls).lined.ordered
