-- The mark on a job is what the last accepted call's tick tells, so that no code need keep it. Assumes nothing.
use Prim.Native.Nat.{ℕ, zero, suc, ◌≤◌}
use mathlib.Core.Path.{◌≡◌, refl, ap, ◌∙◌}
use mathlib.Core.Bool.{Bool, cond, not, ◌&&◌, ◌||◌}
use mathlib.Core.List.{List, [], ◌∷◌, map}
use Rattle.rules.specs.declared.Tick.{Tick}
use Rattle.rules.specs.declared.Phase.TheVariants.{Delayed}
use Rattle.rules.specs.declared.Call.{Call}
use Rattle.rules.specs.declared.Call.TheVariants.{Wait, Activate, Terminate, Chain}
use Rattle.rules.specs.Words.{unless, only, All}
use Rattle.rules.specs.Table.{Table, Passes}
use Rattle.rules.specs.Jobs.{Job, Pending, accepted, new_job, before}
use Rattle.rules.specs.Calls.{tick_of}
use Rattle.rules.specs.Late.{is_past, is_late, newly_late, marked_at, falls_late}
use Rattle.rules.specs.Layer.{Board, fresh, next, done, marked, result, viewed, running}
use Rattle.rules.specs.Run.{run}
use Rattle.rules.specs.Statement.{LateNeedsNoMark}
use Rattle.rules.specs.History.{makes}
use Rattle.rules.proofs.Lists.{all_over}
use Rattle.rules.proofs.Past.{stays_past, not_past_yet, falls_late_lem}
use Rattle.rules.proofs.Moves.{moved_all}
use Rattle.rules.proofs.Allowed.{Known, known_of, time_of, allowed}

pub record Marked (now : Tick) (j : Job) : Type 0 where
  pub mark : j.reported ≡ is_past now j.due

marked_later : (s t : Tick) → s.0 ≤ t.0 → (j : Job) → Marked s j → Marked t (marked_at t j)
marked_later s t h j k = record { mark = ap (λ z. z || is_past t j.due) k.mark ∙ stays_past s t j.due h }

marked_new : (T : Table) → Passes T → (e : Call) → Known T e → All (λ (j : Pending). Marked (tick_of e) (new_job Delayed j)) (makes (accepted T) e)
marked_new T p (Wait t) k = tt
marked_new T p (Activate t n) k = (record { mark = not_past_yet T p t n k }, tt)
marked_new T p (Terminate t) k = tt
marked_new T p (Chain t n) k = (record { mark = not_past_yet T p t n k }, tt)

pub next_marked : (T : Table) → Passes T → (b : Board) (e : Call) → All (Marked b.last) b.jobs → All (Marked (next T b e).last) (next T b e).jobs
next_marked T p b e h = go (result T b e) refl
  where
    go : (k : ℕ) → result T b e ≡ k → All (Marked (unless k b (done T (marked (tick_of e) b) e)).last) (unless k b (done T (marked (tick_of e) b) e)).jobs
    go zero z =
        let a = allowed T (viewed T b) e z in
        moved_all (Marked (tick_of e)) (λ j k. record { mark = k.mark }) (before T) (accepted T) (running T b) (map (marked_at (tick_of e)) b.jobs) e
        (marked_new T p e (known_of T (viewed T b) e a))
        (all_over (Marked b.last) (Marked (tick_of e)) (marked_at (tick_of e)) (marked_later b.last (tick_of e) (time_of T (viewed T b) e a)) b.jobs h)
    go (suc k) z = h

run_marked : (T : Table) → Passes T → (b : Board) → All (Marked b.last) b.jobs → (es : List Call) → All (Marked (run T b es).last) (run T b es).jobs
run_marked T p b h [] = h
run_marked T p b h (e ∷ es) = run_marked T p (next T b e) (next_marked T p b e h) es

pub fresh_marked : (T : Table) → Passes T → (calls : List Call) → All (Marked (run T fresh calls).last) (run T fresh calls).jobs
fresh_marked T p calls = run_marked T p fresh tt calls

only_alike : (f g : Job → Bool) (l : List Job) → All (λ (j : Job). f j ≡ g j) l → only f l ≡ only g l
only_alike f g [] h = refl
only_alike f g (j ∷ l) h = λ i. cond (h.0 i) (j ∷ only_alike f g l h.1 i) (only_alike f g l h.1 i)

pub late_unmarked : (s t : Tick) (l : List Job) → All (Marked s) l → newly_late t l ≡ only (falls_late s t) l
late_unmarked s t l h = only_alike (λ (j : Job). is_late t j && not j.reported) (falls_late s t) l (each l h)
  where
    each : (l : List Job) → All (Marked s) l → All (λ (j : Job). (is_late t j && not j.reported) ≡ falls_late s t j) l
    each [] h = tt
    each (j ∷ l) h = (ap (λ z. is_late t j && not z) h.0.mark ∙ falls_late_lem s t j.due, each l h.1)

pub late_needs_no_mark : LateNeedsNoMark
late_needs_no_mark T p calls t = late_unmarked (run T fresh calls).last t (run T fresh calls).jobs (fresh_marked T p calls)
