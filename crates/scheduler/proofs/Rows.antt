-- The refusals of the code are the rows of the rule-book. Assumes nothing.
use Prim.Native.Nat.{ℕ}
use mathlib.Core.Bool.{Bool, true, false}
use mathlib.Core.Path.{◌≡◌, refl, sym, ap, ◌∙◌}
use mathlib.Core.List.{List, [], ◌∷◌, map}
use lib.Dec.{leb, eqb, eqb-suc-zero}
use lib.ListN.{length, drop}
use Rattle.rules.specs.declared.Job.{Job as Entry}
use Rattle.rules.specs.declared.Tick.{Tick}
use Rattle.rules.specs.declared.Line.{Line}
use Rattle.rules.specs.declared.Call.{Call}
use Rattle.rules.specs.declared.Call.TheVariants.{Wait, Activate, Terminate, Chain}
use Rattle.std.specs.Result.{result_and}
use Rattle.std.specs.Prelude.{Ok, Err, is_ok}
use Rattle.rules.specs.declared.CallRefusal.{CallRefusal}
use Rattle.rules.specs.declared.CallRefusal.TheVariants.{NoJob, NoTask, LimitReached, BadTick, DueBeyond, NoPlace}
use Rattle.rules.specs.Answers.{call_number, result_number}
use Rattle.rules.specs.Words.{◌if◌else◌}
use Rattle.rules.specs.Table.{Table, limit_of, deadline_of}
use Rattle.rules.specs.Jobs.{Job}
use Rattle.rules.specs.Calls.{bad_tick, is_idle, bad_task, out_of_reach, refusal}
use Rattle.rules.specs.Layer.{running, without, result}
use Rattle.rules.specs.Run.{Head, Reached}
use Rattle.rules.proofs.Reached.{reached_task, reached_leaves}
use Rattle.ticks.specs.Ticks.{sum, is_beyond}
use Rattle.ticks.proofs.Laws.{sum_beyond}
use Rattle.table.specs.Lines.{packed, line_at}
use Rattle.jobs.specs.Listed.{pack, pending_of}
use Rattle.jobs.proofs.Laid.{view_pack, count_pack}
use Rattle.scheduler.specs.declared.State.{State}
use Rattle.scheduler.specs.State.{kept, state_of}
use Rattle.scheduler.specs.Steps.{Allowed, refused_if, in_time, asked_of, activate_refusal, terminate_refusal, chain_refusal}
use Rattle.scheduler.proofs.Back.{line_is}
use Rattle.scheduler.proofs.Parts.{length_tasks, pending_is, drop_is}
use Rattle.rules.specs.Statement.{first_task}

-- what the code finds for a call, and its number
abbrev pub allowed_in : State → Call → Allowed
allowed_in s (Wait t) = in_time s.last t
allowed_in s (Activate t n) = activate_refusal s.last s.table.count s.list (asked_of s.table t n)
allowed_in s (Terminate t) = terminate_refusal s.last s.list.count t
allowed_in s (Chain t n) = chain_refusal s.last s.table.count s.list (asked_of s.table t n)

abbrev pub refusal_in : State → Call → ℕ
refusal_in s e = result_number (allowed_in s e)

-- the number of a row that refuses, and of those behind it
number_row : (k : CallRefusal) (c : Bool) (o : Allowed) → result_number (result_and (refused_if k c) o) ≡ (call_number k if c else result_number o)
unfolding ◌if◌else◌
number_row k true o = refl
number_row k false o = refl

number_last : (k : CallRefusal) (c : Bool) → result_number (refused_if k c) ≡ (call_number k if c else 0)
unfolding ◌if◌else◌
number_last k true = refl
number_last k false = refl

-- 0 is given exactly where the call is allowed
pub ok_at_0 : (o : Allowed) → is_ok o ≡ eqb (result_number o) 0
ok_at_0 (Ok a) = refl
ok_at_0 (Err NoJob) = refl
ok_at_0 (Err NoTask) = refl
ok_at_0 (Err LimitReached) = refl
ok_at_0 (Err BadTick) = refl
ok_at_0 (Err DueBeyond) = refl
ok_at_0 (Err NoPlace) = refl

idle_is : (l : List Job) → eqb (length (map kept l)) 0 ≡ is_idle (first_task l)
idle_is [] = refl
idle_is (j ∷ l) = eqb-suc-zero (length (map kept l))

limit_is : (T : Table) (n : ℕ) → (line_at (packed T.lines).lines n).limit ≡ limit_of T n
limit_is T n = ap (λ (x : Line). x.limit) (line_is T n)

reach_is : (T : Table) (t : Tick) (n : ℕ) → is_beyond (sum t (line_at (packed T.lines).lines n).deadline) ≡ out_of_reach T t n
reach_is T t n = ap (λ (x : Line). is_beyond (sum t x.deadline)) (line_is T n) ∙ sum_beyond t (deadline_of T n)

module _ (T : Table) (h : Head) (r : Reached T h) where
  idle : eqb (pack (map kept h.board.jobs)).count 0 ≡ is_idle (running T h.board)
  idle = ap (λ n. eqb n 0) (count_pack (map kept h.board.jobs)) ∙ idle_is h.board.jobs ∙ ap is_idle (sym (reached_task T h r))

  pub rows_are : (e : Call) → refusal_in (state_of T h) e ≡ result T h.board e
  unfolding state_of packed asked_of refusal
  rows_are (Wait t) = number_last BadTick (bad_tick h.board.last t)
  rows_are (Activate t n) =
      let p = ap (pending_of n) (view_pack (map kept h.board.jobs)) ∙ pending_is n h.board.jobs in
      let c = count_pack (map kept h.board.jobs) ∙ length_tasks h.board.jobs in
      simp (number_row, number_last)
      (λ i.
      8 if bad_tick h.board.last t
      else 3 if bad_task T n
      else 4 if leb (limit_is T n i) (p i)
      else 10 if leb 32 (c i)
      else 9 if reach_is T t n i
      else 0)
  rows_are (Terminate t) = simp (number_row, number_last) (λ i. 8 if bad_tick h.board.last t else 2 if idle i else 0)
  rows_are (Chain t n) =
      let p =
      ap (λ (xs : List Entry). pending_of n (drop 1 xs)) (view_pack (map kept h.board.jobs))
      ∙ ap (pending_of n) (drop_is h.board.jobs ∙ ap (map kept) (sym (reached_leaves T h r)))
      ∙ pending_is n (without (running T h.board) h.board.jobs) in
      simp (number_row, number_last)
      (λ i.
      8 if bad_tick h.board.last t
      else 2 if idle i
      else 3 if bad_task T n
      else 4 if leb (limit_is T n i) (p i)
      else 9 if reach_is T t n i
      else 0)
