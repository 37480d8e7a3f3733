-- A refused call changes nothing and reports the unchanged running job. Assumes nothing.
use Prim.Native.Nat.{ℕ, zero, suc}
use mathlib.Core.Path.{◌≡◌, refl}
use mathlib.Core.List.{List, []}
use Rattle.rules.specs.declared.KernelCall.{KernelCall}
use Rattle.rules.specs.declared.KernelCall.TheVariants.{NoCall}
use Rattle.rules.specs.declared.Answer.{Answer}
use Rattle.rules.specs.declared.Tally.{Tally}
use Rattle.rules.specs.Words.{unless}
use Rattle.rules.specs.Table.{Table}
use Rattle.rules.specs.Calls.{tick_of}
use Rattle.rules.specs.Late.{newly_late}
use Rattle.rules.specs.Layer.{Board, result, choice, done, marked, moves, in_places, tasks, late_tasks}
use Rattle.rules.specs.Counts.{with_ended, with_late, ending}
use Rattle.rules.specs.Run.{Head}
use Rattle.rules.specs.Statement.{RefusedUnchanged}

-- what is chosen by a number that is not 0 is the old value
old_head : (h : Head) (b : Board) (c : List Tally) (k : ℕ) → (k ≡ 0 → ⊥) → ◌≡◌ {A = Head} (record { board = unless k h.board b; tallies = unless k h.tallies c }) h
old_head h b c zero n = absurd (n refl)
old_head h b c (suc k) n = refl

old_answer : (T : Table) (r : ℕ) (b c : Board) (a : KernelCall) (l : List ℕ) (k : ℕ) → (k ≡ 0 → ⊥)
    → ◌≡◌ {A = Answer} (record { result = r; running = choice T (unless k b c); call = unless k NoCall a; late = in_places (unless k [] l) })
    (record { result = r; running = choice T b; call = NoCall; late = in_places [] })
old_answer T r b c a l zero n = absurd (n refl)
old_answer T r b c a l (suc k) n = refl

pub refused_unchanged : RefusedUnchanged
refused_unchanged T h e n =
    record {
      state =
          old_head h (done T (marked (tick_of e) h.board) e)
          (with_ended (tick_of e) (ending T h.board e) (with_late (late_tasks T h.board e) h.tallies)) (result T h.board e) n;
      returns =
          old_answer T (result T h.board e) h.board (done T (marked (tick_of e) h.board) e)
          (moves T (marked (tick_of e) h.board) e).call (tasks (newly_late (tick_of e) h.board.jobs)) (result T h.board e) n;
    }
