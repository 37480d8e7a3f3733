-- Each late job is reported once, and no other. Assumes nothing.
use Prim.Native.Nat.{ℕ, zero, suc, ◌+◌, ◌≤◌}
use mathlib.Core.Path.{◌≡◌, refl, ap, ◌∙◌}
use mathlib.Core.Bool.{Bool, true, false, cond, not, ◌&&◌, ◌||◌}
use mathlib.Core.List.{List, [], ◌∷◌, map}
use mathlib.Core.Option.{Option, some, none}
use native.Mathlib.Omega.{arith}
use Rattle.rules.specs.declared.Tick.{Tick}
use Rattle.rules.specs.declared.Phase.TheVariants.{Delayed}
use Rattle.rules.specs.declared.Call.{Call}
use Rattle.rules.specs.declared.Call.TheVariants.{Wait, Activate, Terminate, Chain}
use Rattle.rules.specs.Words.{unless, count_by, All}
use Rattle.rules.specs.Table.{Table, Passes}
use Rattle.rules.specs.Jobs.{Job, Pending, accepted, bare, new_job, before}
use Rattle.rules.specs.Calls.{tick_of}
use Rattle.rules.specs.Late.{is_past, is_late, newly_late, marked_at}
use Rattle.rules.specs.Layer.{Board, fresh, next, done, marked, result, running, viewed}
use Rattle.rules.specs.Counts.{ending}
use Rattle.rules.specs.Run.{run}
use Rattle.rules.specs.History.{along, if_accepted, makes, Ended, ended_at, ended_by, endings, reported_by, reports}
use Rattle.rules.specs.Statement.{LateOnce, ReportedOnce}
use Rattle.rules.proofs.Lists.{all_map, count_append, count_map, count_only, count_split, count_alike, count_both}
use Rattle.rules.proofs.Along.{balance}
use Rattle.rules.proofs.Past.{stays_past}
use Rattle.rules.proofs.Moves.{found, all_found, count_stays, staying, moved_count}
use Rattle.rules.proofs.Allowed.{time_of, allowed}
use Rattle.rules.proofs.Marks.{Marked, next_marked, fresh_marked}
use Rattle.rules.proofs.Vanished.{nothing_vanishes}

-- the job that a call ends is one of the list
all_ending : (Q : Job → Type 0) (T : Table) (b : Board) (e : Call) → All Q b.jobs → All Q (found (ending T b e))
all_ending Q T b (Wait t) h = tt
all_ending Q T b (Activate t n) h = tt
all_ending Q T b (Terminate t) h = all_found Q (running T b) b.jobs h
all_ending Q T b (Chain t n) h = all_found Q (running T b) b.jobs h

-- the job that a call ends, with the mark that it then has
abbrev gone : Table → Board → Call → List Job
gone T b e = if_accepted T b e (map (marked_at (tick_of e)) (found (ending T b e)))

module _ (test : Pending → Bool) where
  -- a job with its mark; an ended job that was late at its ending call; a job, marked or not
  abbrev with_mark : Job → Bool
  with_mark j = j.reported && test (bare j)

  abbrev ended_late : Ended → Bool
  ended_late x = is_past x.tick x.job.due && test x.job

  abbrev passes : Job → Bool
  passes j = test (bare j)

  -- what a call reports it marks
  marks_count : (t : Tick) (l : List Job) → count_by test (map bare (newly_late t l)) + count_by with_mark l ≡ count_by with_mark (map (marked_at t) l)
  marks_count t l =
      omega (
        arith,
        count_map test bare (newly_late t l),
        count_only passes (λ (j : Job). is_late t j && not j.reported) l,
        count_map with_mark (marked_at t) l,
        count_split (λ (j : Job). is_late t j && not j.reported && test (bare j)) with_mark (λ (j : Job). with_mark (marked_at t j)) (λ j. each (is_late t j) j.reported (test (bare j))) l,
      )
    where
      each : (p q r : Bool) → cond (p && not q && r) 1 0 + cond (q && r) 1 0 ≡ cond ((q || p) && r) 1 0
      each true true r = omega arith
      each true false true = refl
      each true false false = refl
      each false true r = omega arith
      each false false r = refl

  -- a new job has no mark
  makes_count : (p : List Pending) → count_by with_mark (map (new_job Delayed) p) ≡ 0
  makes_count [] = refl
  makes_count (j ∷ p) = makes_count p

  -- the marks that a call leaves, and those that go with what it ends, are those that were there and those that it made
  next_count : (T : Table) (b : Board) → Unit {0} → (e : Call)
      → count_by test (reported_by T b e) + count_by with_mark b.jobs ≡ count_by with_mark (gone T b e) + count_by with_mark (next T b e).jobs
  next_count T b u e = go (result T b e)
    where
      go : (k : ℕ)
          → count_by test (unless k [] (map bare (newly_late (tick_of e) b.jobs))) + count_by with_mark b.jobs
          ≡ count_by with_mark (unless k [] (map (marked_at (tick_of e)) (found (ending T b e)))) + count_by with_mark (unless k b (done T (marked (tick_of e) b) e)).jobs
      go zero =
          let l = map (marked_at (tick_of e)) b.jobs in
          omega (
            arith,
            marks_count (tick_of e) b.jobs,
            count_stays with_mark T b e,
            moved_count with_mark (λ j. refl) (before T) (accepted T) (running T b) l e,
            count_append with_mark (map (new_job Delayed) (makes (accepted T) e)) (staying (running T b) l e),
            makes_count (makes (accepted T) e),
          )
      go (suc k) = refl

  -- so of any calls: what was reported went with its mark, or is pending with it
  reports_count : (T : Table) (calls : List Call)
      → count_by test (reports T calls) + 0 ≡ count_by with_mark (along T (gone T) fresh calls) + count_by with_mark (run T fresh calls).jobs
  reports_count T calls =
      balance T (λ (b : Board). Unit {0}) (λ b u e. tt) (reported_by T) test (gone T) with_mark (λ (b : Board). count_by with_mark b.jobs) (next_count T) fresh tt calls

  -- what goes has ended
  gone_ended : (T : Table) (calls : List Call) → count_by passes (along T (gone T) fresh calls) + 0 ≡ count_by (λ (x : Ended). test x.job) (endings T calls) + 0
  gone_ended T calls =
      balance T (λ (b : Board). Unit {0}) (λ b u e. tt) (gone T) passes (ended_by T) (λ (x : Ended). test x.job) (λ (b : Board). 0) (λ b u e. step (result T b e) (tick_of e) (ending T b e)) fresh tt calls
    where
      step : (k : ℕ) (t : Tick) (o : Option Job)
          → count_by passes (unless k [] (map (marked_at t) (found o))) + 0 ≡ count_by (λ (x : Ended). test x.job) (unless k [] (ended_at t o)) + 0
      step zero t none = refl
      step zero t (some j) = refl
      step (suc k) t o = refl

  -- and has its mark exactly if it is late at its ending call
  gone_late : (T : Table) → Passes T → (calls : List Call) → count_by with_mark (along T (gone T) fresh calls) + 0 ≡ count_by ended_late (endings T calls) + 0
  gone_late T p calls =
      balance T (λ (b : Board). All (Marked b.last) b.jobs) (λ b m e. next_marked T p b e m) (gone T) with_mark (ended_by T) ended_late (λ (b : Board). 0) step fresh tt calls
    where
      each : (s t : Tick) → s.0 ≤ t.0 → (o : Option Job) → All (Marked s) (found o)
          → count_by with_mark (map (marked_at t) (found o)) + 0 ≡ count_by ended_late (ended_at t o) + 0
      each s t h none m = refl
      each s t h (some j) m =
          ap (λ z. cond (z && test (bare j)) 1 0 + 0) (ap (λ z. z || is_past t j.due) m.0.mark ∙ stays_past s t j.due h)

      step : (b : Board) → All (Marked b.last) b.jobs → (e : Call) → count_by with_mark (gone T b e) + 0 ≡ count_by ended_late (ended_by T b e) + 0
      step b m e = go (result T b e) refl
        where
          go : (k : ℕ) → result T b e ≡ k
              → count_by with_mark (unless k [] (map (marked_at (tick_of e)) (found (ending T b e)))) + 0 ≡ count_by ended_late (unless k [] (ended_at (tick_of e) (ending T b e))) + 0
          go zero z = each b.last (tick_of e) (time_of T (viewed T b) e (allowed T (viewed T b) e z)) (ending T b e) (all_ending (Marked b.last) T b e m)
          go (suc k) z = refl

pub late_once : LateOnce
late_once T p calls test =
    let b = run T fresh calls in
    omega (
      arith,
      reports_count test T calls,
      gone_late test T p calls,
      count_alike (with_mark test) (λ (j : Job). is_past b.last j.due && test (bare j)) b.jobs (all_map (λ j m. ap (λ z. z && test (bare j)) m.mark) b.jobs (fresh_marked T p calls)),
    )

-- a reported job was accepted, since it ended or is pending
pub reported_once : ReportedOnce
reported_once T calls test =
    let b = run T fresh calls in
    omega (
      arith,
      reports_count test T calls,
      gone_ended test T calls,
      nothing_vanishes T calls test,
      count_both (passes test) (λ (j : Job). j.reported) (along T (gone T) fresh calls),
      count_both (passes test) (λ (j : Job). j.reported) b.jobs,
      count_map test bare b.jobs,
    )
