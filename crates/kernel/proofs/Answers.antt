-- The dispatcher finds the job that a call's answer names. Assumes nothing.
use Prim.Native.Nat.{ℕ, zero, suc}
use mathlib.Core.Path.{◌≡◌, refl, ap, ◌∙◌, subst⁻¹}
use mathlib.Core.List.{List, [], ◌∷◌, map}
use Rattle.rules.specs.declared.Job.{Job as Entry}
use Rattle.rules.specs.Table.{Table}
use Rattle.rules.specs.Jobs.{Job}
use Rattle.rules.specs.Layer.{Board, running_job, shown}
use Rattle.rules.specs.Run.{Head, head_next, Reached}
use Rattle.rules.proofs.Reached.{reached_board, reached_next}
use Rattle.table.specs.Lines.{packed}
use Rattle.jobs.specs.Listed.{view, pack}
use Rattle.jobs.proofs.Laid.{view_pack}
use Rattle.scheduler.specs.declared.State.{State}
use Rattle.scheduler.specs.declared.Stepped.{Stepped}
use Rattle.scheduler.specs.State.{kept, state_of, told, step_of}
use Rattle.scheduler.proofs.Back.{step_is}
use Rattle.scheduler.proofs.Handed.{handed_by}
use Rattle.std.specs.Prelude.{Some, None}
use Rattle.kernel.specs.Dispatch.{Found, dispatch_of}
use Rattle.kernel.specs.Claims.{job_at, placed, choice_at, choice_found, DispatchIsAnswer}
use Rattle.kernel.proofs.Queue.{dispatch_is_kernel}

-- a job at a place is shown as it is kept
shown_at : (k : ℕ) (l : List Job) → choice_at k (map kept l) ≡ shown (job_at k l)
shown_at k [] = refl
shown_at zero (j ∷ l) = refl
shown_at (suc k) (j ∷ l) = shown_at k l

shown_found : (f : Found) (l : List Job) → choice_found f (map kept l) ≡ shown (placed f l)
shown_found None l = refl
shown_found (Some k) l = shown_at k l

pub dispatch_is_answer : DispatchIsAnswer
unfolding state_of told
dispatch_is_answer s d e =
    handed_by
    (λ (z : State). choice_found (dispatch_of (step_of z e).state.table.lines (view (step_of z e).state.list)) (view (step_of z e).state.list) ≡ (step_of z e).answer.running)
    answers s d
  where
    -- on the board that the call leaves
    finds : (T : Table) (h : Head) (r : Reached T h) → choice_found (dispatch_of (packed T.lines).lines (map kept h.board.jobs)) (map kept h.board.jobs) ≡ shown (running_job T h.board)
    finds T h r =
        shown_found (dispatch_of (packed T.lines).lines (map kept h.board.jobs)) h.board.jobs
        ∙ ap shown
        (subst⁻¹ (λ (b : Board). placed (dispatch_of (packed T.lines).lines (map kept b.jobs)) b.jobs ≡ running_job T b) (reached_board T h r)
        (dispatch_is_kernel T r.calls))

    answers : (T : Table) (h : Head) → Reached T h
        → choice_found (dispatch_of (step_of (state_of T h) e).state.table.lines (view (step_of (state_of T h) e).state.list)) (view (step_of (state_of T h) e).state.list)
        ≡ (step_of (state_of T h) e).answer.running
    answers T h r =
        let n = head_next T h e in
        let v : view (pack (map kept n.board.jobs)) ≡ map kept n.board.jobs = view_pack (map kept n.board.jobs) in
        subst⁻¹
        (λ (z : Stepped). choice_found (dispatch_of z.state.table.lines (view z.state.list)) (view z.state.list) ≡ z.answer.running) (step_is T h r e)
        (ap (λ (xs : List Entry). choice_found (dispatch_of (packed T.lines).lines xs) xs) v ∙ finds T n (reached_next T h r e))
