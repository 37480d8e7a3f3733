-- Every accepted call keeps the invariant, on any table. Assumes nothing.
use Prim.Native.Nat.{ℕ, zero, suc, ◌<◌}
use mathlib.Core.Path.{◌≡◌, refl, ap, sym, ◌∙◌, subst⁻¹}
use mathlib.Core.Bool.{Bool, true, false}
use mathlib.Core.List.{List, [], ◌∷◌, ◌++◌, map}
use mathlib.Core.Option.{Option}
use native.Mathlib.Omega.{arith}
use Rattle.rules.specs.declared.Tick.{Tick}
use Rattle.rules.specs.declared.Phase.{Phase}
use Rattle.rules.specs.declared.Phase.TheVariants.{Delayed, Released}
use Rattle.rules.specs.declared.Call.{Call}
use Rattle.rules.specs.declared.Call.TheVariants.{Wait, Activate, Terminate, Chain}
use Rattle.rules.specs.Words.{unless, All}
use Rattle.rules.specs.Table.{Table, size}
use Rattle.rules.specs.Jobs.{Job, Pending, accepted, bare, new_job, before}
use Rattle.rules.specs.Kernel.{dequeued, kernel}
use Rattle.rules.specs.Calls.{tick_of}
use Rattle.rules.specs.Late.{marked_at}
use Rattle.rules.specs.Layer.{Board, insert, is_first, without, settled, settled_by, entered, moved, fresh, viewed, result, running, marked, done, next}
use Rattle.rules.specs.Run.{run}
use Rattle.rules.specs.Statement.{pushed, released_of, FirstReleased}
use Rattle.rules.specs.History.{makes}
use Rattle.rules.proofs.Moves.{all_without, pairs_without, moved_all}
use Rattle.rules.proofs.Allowed.{Known, known_of, time_of, allowed}
use Rattle.rules.proofs.Order.{Made, Ranking}
use Rattle.rules.proofs.Invariant.{Ahead, Ordered, Sound, Lined, GoodOf, Good, marked_good, ends, over_first, insert_ordered, insert_released, insert_first, insert_behind}

-- the running job r has left the list and the queue q
settled_lined : (T : Table) (P : ℕ → ℕ → Type 0) (l : List Job) (r : Option ℕ) (q : List ℕ) → Ordered T P l → dequeued r q ≡ released_of l
    → Lined T P (settled l).jobs (kernel r (settled l).call q)
settled_lined T P [] r q o e = record { ordered = tt; first = tt; queue = e }
settled_lined T P (j ∷ l) r q o e = go j.phase refl
  where
    go : (s : Phase) → j.phase ≡ s → Lined T P (settled_by s j l).jobs (kernel r (settled_by s j l).call q)
    go Delayed p =
        record { ordered = o; first = refl; queue = ap (λ z. z ++ (j.task ∷ [])) (e ∙ ap (λ z. pushed z j.task (released_of l)) p) }
    go Released p = record { ordered = o; first = p; queue = e }

module _ (T : Table) (P : ℕ → ℕ → Type 0) (rank : Ranking T P) where
  -- a new job
  entered_lined : (j : Pending) → Made T j.since j → (l : List Job) (r : Option ℕ) (q : List ℕ) → GoodOf T P j.since l q → (f : Bool) → is_first (before T) j l ≡ f
      → Lined T P (entered (before T) j l f).jobs (kernel r (entered (before T) j l f).call q)
  entered_lined j m l r q g true f =
      record {
        ordered = subst⁻¹ (Ordered T P) at_front (over_first T P rank j m l f g.sound g.lined.ordered, g.lined.ordered);
        first = subst⁻¹ FirstReleased at_front refl;
        queue = ap (λ z. z ++ (j.task ∷ [])) g.lined.queue ∙ ap released_of (sym at_front);
      }
    where
      at_front : insert (before T) (new_job Released j) l ≡ new_job Released j ∷ l
      at_front = insert_first T Released j l f
  entered_lined j m l r q g false f =
      record {
        ordered = insert_ordered T P rank j m l g.sound g.lined.ordered;
        first = insert_behind T Delayed j l f g.lined.first;
        queue = g.lined.queue ∙ sym (insert_released T j l);
      }

  new_made : (t : Tick) (n : ℕ) → n < size T → Made T t (accepted T t n)
  new_made t n known = record { known = known; dues = refl; past = omega arith }

  -- what a call brings was accepted by it
  brings : (e : Call) → Known T e → All (λ (j : Pending). Sound T (tick_of e) (new_job Delayed j)) (makes (accepted T) e)
  brings (Wait t) k = tt
  brings (Activate t n) k = (record { made = new_made t n k }, tt)
  brings (Terminate t) k = tt
  brings (Chain t n) k = (record { made = new_made t n k }, tt)

  moved_lined : (r : Option ℕ) (l : List Job) (q : List ℕ) (e : Call) → Known T e → GoodOf T P (tick_of e) l q
      → Lined T P (moved (before T) (accepted T) r l e).jobs (kernel r (moved (before T) (accepted T) r l e).call q)
  moved_lined r l q (Wait t) k g = g.lined
  moved_lined r l q (Activate t n) k g =
      entered_lined (accepted T t n) (new_made t n k) l r q g (is_first (before T) (accepted T t n) l) refl
  moved_lined r l q (Terminate t) k g =
      settled_lined T P (without r l) r q (pairs_without (λ i j. Ahead T P (bare i) j) r l g.lined.ordered)
      (ap (dequeued r) g.lined.queue ∙ ends T P rank r l g.lined.ordered)
  moved_lined r l q (Chain t n) k g =
      settled_lined T P (insert (before T) (new_job Delayed (accepted T t n)) (without r l)) r q
      (insert_ordered T P rank (accepted T t n) (new_made t n k) (without r l) (all_without (Sound T t) r l g.sound)
      (pairs_without (λ i j. Ahead T P (bare i) j) r l g.lined.ordered))
      (ap (dequeued r) g.lined.queue ∙ ends T P rank r l g.lined.ordered ∙ sym (insert_released T (accepted T t n) (without r l)))

  -- the jobs of a good board move at a call's tick, whichever job runs
  pub moved_good : (r : Option ℕ) (l : List Job) (q : List ℕ) (e : Call) → Known T e → GoodOf T P (tick_of e) l q
      → GoodOf T P (tick_of e) (moved (before T) (accepted T) r l e).jobs (kernel r (moved (before T) (accepted T) r l e).call q)
  moved_good r l q e k g =
      record {
        sound = moved_all (Sound T (tick_of e)) (λ j s. record { made = s.made }) (before T) (accepted T) r l e (brings e k) g.sound;
        lined = moved_lined r l q e k g;
      }

  pub done_good : (b : Board) → Good T P b → (e : Call) → result T b e ≡ 0 → Good T P (done T (marked (tick_of e) b) e)
  done_good b g e z =
      let a = allowed T (viewed T b) e z in
      moved_good (running T b) (map (marked_at (tick_of e)) b.jobs) b.ready e (known_of T (viewed T b) e a)
      (marked_good T P b.last (tick_of e) (time_of T (viewed T b) e a) b.jobs b.ready g)

  pub next_good : (b : Board) → Good T P b → (e : Call) → Good T P (next T b e)
  next_good b g e = go (result T b e) refl
    where
      go : (k : ℕ) → result T b e ≡ k → Good T P (unless k b (done T (marked (tick_of e) b) e))
      go zero z = done_good b g e z
      go (suc k) z = g

  pub run_good : (b : Board) → Good T P b → (es : List Call) → Good T P (run T b es)
  run_good b g [] = g
  run_good b g (e ∷ es) = run_good (next T b e) (next_good b g e) es

  pub fresh_good : (es : List Call) → Good T P (run T fresh es)
  fresh_good es = run_good fresh (record { sound = tt; lined = record { ordered = tt; first = tt; queue = refl } }) es
