-- No accepted job vanishes: it was ended by an accepted call, or is pending. Assumes nothing.
use Prim.Native.Nat.{ℕ, zero, suc, ◌+◌}
use mathlib.Core.Path.{◌≡◌, refl}
use mathlib.Core.Bool.{Bool}
use mathlib.Core.List.{List, [], map}
use mathlib.Core.Option.{Option, some, none}
use native.Mathlib.Omega.{arith}
use Rattle.rules.specs.declared.Tick.{Tick}
use Rattle.rules.specs.declared.Phase.TheVariants.{Delayed}
use Rattle.rules.specs.declared.Call.{Call}
use Rattle.rules.specs.Words.{unless, count_by}
use Rattle.rules.specs.Table.{Table}
use Rattle.rules.specs.Jobs.{Job, Pending, accepted, bare, new_job, before}
use Rattle.rules.specs.Calls.{tick_of}
use Rattle.rules.specs.Late.{marked_at}
use Rattle.rules.specs.Layer.{Board, fresh, next, done, marked, result, running}
use Rattle.rules.specs.Counts.{ending}
use Rattle.rules.specs.Run.{run}
use Rattle.rules.specs.Statement.{NothingVanishes}
use Rattle.rules.specs.History.{Ended, ended_at, ended_by, makes, accepted_by}
use Rattle.rules.proofs.Along.{balance}
use Rattle.rules.proofs.Lists.{count_append, count_map}
use Rattle.rules.proofs.Moves.{found, count_stays, staying, moved_count}

module _ (test : Pending → Bool) where
  abbrev of_job : Job → Bool
  of_job j = test (bare j)

  abbrev of_ended : Ended → Bool
  of_ended x = test x.job

  ended_count : (t : Tick) (o : Option Job) → count_by of_ended (ended_at t o) ≡ count_by of_job (found o)
  ended_count t none = refl
  ended_count t (some j) = refl

  made_count : (p : List Pending) → count_by of_job (map (new_job Delayed) p) ≡ count_by test p
  made_count p = count_map of_job (new_job Delayed) p

  -- marks are not looked at
  stays_count : (T : Table) (b : Board) (e : Call)
      → count_by of_ended (ended_at (tick_of e) (ending T b e)) + count_by of_job (staying (running T b) (map (marked_at (tick_of e)) b.jobs) e) ≡ count_by of_job b.jobs
  stays_count T b e =
      omega (
        arith,
        count_stays of_job T b e,
        ended_count (tick_of e) (ending T b e),
        count_map of_job (marked_at (tick_of e)) (found (ending T b e)),
        count_map of_job (marked_at (tick_of e)) b.jobs,
      )

  -- what a call makes comes to the pending, what it ends leaves them
  next_count : (T : Table) (b : Board) (e : Call)
      → count_by test (accepted_by T b e) + count_by of_job b.jobs ≡ count_by of_ended (ended_by T b e) + count_by of_job (next T b e).jobs
  next_count T b e = go (result T b e)
    where
      go : (k : ℕ) → count_by test (unless k [] (makes (accepted T) e)) + count_by of_job b.jobs
          ≡ count_by of_ended (unless k [] (ended_at (tick_of e) (ending T b e))) + count_by of_job (unless k b (done T (marked (tick_of e) b) e)).jobs
      go zero =
          let l = map (marked_at (tick_of e)) b.jobs in
          omega (
            arith,
            moved_count of_job (λ j. refl) (before T) (accepted T) (running T b) l e,
            count_append of_job (map (new_job Delayed) (makes (accepted T) e)) (staying (running T b) l e),
            made_count (makes (accepted T) e),
            stays_count T b e,
          )
      go (suc k) = refl

pub nothing_vanishes : NothingVanishes
nothing_vanishes T calls test =
    omega (
      arith,
      balance T (λ b. Unit {0}) (λ b i e. tt) (accepted_by T) test (ended_by T) (of_ended test) (λ (b : Board). count_by (of_job test) b.jobs) (λ b i. next_count test T b) fresh tt calls,
      count_map test bare (run T fresh calls).jobs,
    )
