-- Table and head can be read back from the state that keeps them. Assumes nothing.
use Prim.Native.Nat.{ℕ, ◌-◌}
use mathlib.Core.Path.{◌≡◌, refl, sym, ap, ◌∙◌}
use mathlib.Core.List.{List, [], ◌∷◌, map}
use native.Mathlib.Omega.{arith}
use Rattle.rules.specs.declared.Tick.{Tick}
use Rattle.rules.specs.declared.Line.{Line}
use Rattle.rules.specs.declared.Call.{Call}
use Rattle.rules.specs.Words.{All}
use Rattle.rules.specs.Table.{Table, line_of, deadline_of}
use Rattle.rules.specs.Jobs.{Job}
use Rattle.rules.specs.Late.{is_past}
use Rattle.rules.specs.Run.{Head, Reached}
use Rattle.rules.specs.Statement.{released_of}
use Rattle.rules.proofs.Invariant.{Sound}
use Rattle.rules.proofs.Marks.{Marked}
use Rattle.rules.proofs.Reached.{reached_good, reached_marked}
use Rattle.table.specs.Lines.{packed, line_at}
use Rattle.table.proofs.Packed.{kept_line, kept_lines}
use Rattle.jobs.specs.Listed.{view, pack}
use Rattle.jobs.proofs.Laid.{view_pack}
use Rattle.scheduler.specs.State.{kept, state_of, table_of, job_back, jobs_of, head_of, told, step_of}

-- ---- the table

-- a task's line as it is kept
pub line_is : (T : Table) (n : ℕ) → line_at (packed T.lines).lines n ≡ line_of T n
line_is T n = kept_line T.lines n

pub table_back : (T : Table) (h : Head) → table_of (state_of T h) ≡ T
unfolding state_of
table_back T h = ap (λ (ls : List Line). record { lines = ls }) (kept_lines T.lines)

-- ---- the head

jobs_back : (T : Table) (now : Tick) (l : List Job) → All (Sound T now) l → All (Marked now) l → map (job_back T now) (map kept l) ≡ l
jobs_back T now [] s m = refl
jobs_back T now (j ∷ l) s m =
    let p : j.due.0 - (deadline_of T j.task).0 ≡ j.since.0 = omega (arith, s.0.made.dues) in
    let k : is_past now j.due ≡ j.reported = sym m.0.mark in
    let q : map (job_back T now) (map kept l) ≡ l = jobs_back T now l s.1 m.1 in
    λ i. record { task = j.task; since = record { 0 = p i }; due = j.due; phase = j.phase; reported = k i } ∷ q i

module _ (T : Table) (h : Head) (r : Reached T h) where
  jobs_are : jobs_of (state_of T h) ≡ h.board.jobs
  unfolding state_of
  jobs_are =
      ap (λ (t : Table). map (job_back t h.board.last) (view (pack (map kept h.board.jobs)))) (table_back T h)
      ∙ ap (map (job_back T h.board.last)) (view_pack (map kept h.board.jobs))
      ∙ jobs_back T h.board.last h.board.jobs (reached_good T h r).sound (reached_marked T h r)

  pub head_back : head_of (state_of T h) ≡ h
  unfolding head_of state_of
  head_back =
      let e : jobs_of (state_of T h) ≡ h.board.jobs = jobs_are in
      let q : released_of (jobs_of (state_of T h)) ≡ h.board.ready = ap released_of e ∙ sym (reached_good T h r).lined.queue in
      λ i. record { board = record { last = h.board.last; jobs = e i; ready = q i }; tallies = h.tallies }

  pub step_is : (e : Call) → step_of (state_of T h) e ≡ told T h e
  unfolding step_of
  step_is e = λ i. told (table_back T h i) (head_back i) e
