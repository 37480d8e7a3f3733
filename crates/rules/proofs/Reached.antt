-- What code may use of a state that was handed out and has since been changed by nothing but calls. Assumes nothing.
use Prim.Native.Nat.{◌≤◌}
use mathlib.Core.Path.{◌≡◌, refl, ap, sym, ◌∙◌, subst⁻¹}
use mathlib.Core.List.{List, [], ◌∷◌, ◌++◌}
use lib.ListN.{length}
use Rattle.rules.specs.declared.Call.{Call}
use Rattle.rules.specs.declared.Verdict.{Verdict}
use Rattle.rules.specs.Words.{All}
use Rattle.rules.specs.Table.{Table, Keeps, fine, check}
use Rattle.rules.specs.Layer.{Board, fresh, without, running, running_job}
use Rattle.rules.specs.Run.{run, Head, fresh_head, head_next, head_run, Reached}
use Rattle.rules.specs.Statement.{first_task}
use Rattle.rules.proofs.Lists.{rest_of}
use Rattle.rules.proofs.Checked.{keeps_found}
use Rattle.rules.proofs.Order.{Higher, ranks}
use Rattle.rules.proofs.Invariant.{Good}
use Rattle.rules.proofs.Step.{fresh_good}
use Rattle.rules.proofs.First.{first_of, top_first, leaves, runs_first}
use Rattle.rules.proofs.Room.{room_for_all}
use Rattle.rules.proofs.Marks.{Marked, fresh_marked}

pub run_last : (T : Table) (h : Head) (es : List Call) (e : Call) → head_run T h (es ++ (e ∷ [])) ≡ head_next T (head_run T h es) e
run_last T h [] e = refl
run_last T h (d ∷ es) e = run_last T (head_next T h d) es e

-- the board of a state runs by itself
pub head_board : (T : Table) (h : Head) (es : List Call) → (head_run T h es).board ≡ run T h.board es
head_board T h [] = refl
head_board T h (e ∷ es) = head_board T (head_next T h e) es

-- a fresh state is reached, and what a call leaves is
pub reached_fresh : (T : Table) → check T ≡ fine → Reached T fresh_head
reached_fresh T a = record { accepted = a; calls = []; is = refl }

pub reached_next : (T : Table) (h : Head) → Reached T h → (e : Call) → Reached T (head_next T h e)
reached_next T h r e = record { accepted = r.accepted; calls = r.calls ++ (e ∷ []); is = ap (λ z. head_next T z e) r.is ∙ sym (run_last T fresh_head r.calls e) }

module _ (T : Table) (h : Head) (r : Reached T h) where
  pub reached_keeps : Keeps T
  reached_keeps = keeps_found T (ap (λ (v : Verdict). v.number) r.accepted)

  pub reached_board : h.board ≡ run T fresh r.calls
  reached_board = ap (λ (z : Head). z.board) r.is ∙ head_board T fresh_head r.calls

  pub reached_good : Good T (Higher T) h.board
  reached_good = subst⁻¹ (Good T (Higher T)) reached_board (fresh_good T (Higher T) (ranks T reached_keeps) r.calls)

  pub reached_marked : All (Marked h.board.last) h.board.jobs
  reached_marked = subst⁻¹ (λ (z : Board). All (Marked z.last) z.jobs) reached_board (fresh_marked T reached_keeps.passes r.calls)

  -- the list has room
  pub reached_room : length h.board.jobs ≤ 32
  reached_room = subst⁻¹ (λ (z : Board). length z.jobs ≤ 32) reached_board (room_for_all T reached_keeps.passes r.calls)

  -- the first job runs, and leaves when it ends
  pub reached_task : running T h.board ≡ first_task h.board.jobs
  reached_task = top_first T reached_keeps h.board.last h.board.jobs h.board.ready reached_good (running T h.board) refl

  pub reached_runs : running_job T h.board ≡ first_of h.board.jobs
  reached_runs = runs_first T reached_keeps h.board.last h.board.jobs h.board.ready reached_good (running T h.board) refl

  pub reached_leaves : without (running T h.board) h.board.jobs ≡ rest_of h.board.jobs
  reached_leaves = leaves T reached_keeps h.board.last h.board.jobs h.board.ready reached_good (running T h.board) refl
