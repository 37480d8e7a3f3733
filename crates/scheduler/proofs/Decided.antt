-- What the code gives for a call that is refused, and for one that is accepted, is the rule-book's step. Assumes nothing.
use mathlib.Core.Path.{◌≡◌, sym, ap, subst, ◌∙◌}
use Prim.Native.Nat.{ℕ, ◌≤◌}
use native.Mathlib.Omega.{arith}
use Rattle.std.specs.Prelude.{Ok, Err}
use Rattle.rules.specs.declared.Tick.{Tick}
use Rattle.rules.specs.declared.Late.{Late}
use Rattle.rules.specs.declared.Answer.{Answer}
use Rattle.rules.specs.declared.Call.{Call}
use Rattle.rules.specs.declared.Line.{Line}
use Rattle.rules.specs.declared.CallRefusal.{CallRefusal}
use Rattle.rules.specs.declared.CallRefusal.TheVariants.{NoJob, NoTask, LimitReached, BadTick, DueBeyond, NoPlace}
use Rattle.rules.specs.declared.KernelCall.{KernelCall}
use Rattle.rules.specs.Answers.{call_number, result_number}
use Rattle.table.specs.Lines.{line_at}
use Rattle.jobs.specs.Listed.{view, first_in}
use Rattle.monitor.specs.declared.Monitor.{Monitor}
use Rattle.scheduler.specs.declared.State.{State}
use Rattle.scheduler.specs.declared.Stepped.{Stepped}
use Rattle.scheduler.specs.State.{Handed, CallGives, CallLeaves}
use Rattle.scheduler.specs.Steps.{Change, response_in, tallied_in, late_of, ended_by, ended_at, left_as, refused_of, accepted_of}
use Rattle.scheduler.proofs.Rows.{allowed_in, refusal_in}
use Rattle.scheduler.proofs.Whole.{accepted_in}
use Rattle.scheduler.proofs.Handed.{handed_short, handed_refused, handed_accepted, hand_on}

-- no refusal has the number of an allowed call
not_0 : (k : CallRefusal) → call_number k ≡ 0 → ⊥
not_0 NoJob e = let z : ◌≡◌ {A = ℕ} 2 0 = e in omega arith
not_0 NoTask e = let z : ◌≡◌ {A = ℕ} 3 0 = e in omega arith
not_0 LimitReached e = let z : ◌≡◌ {A = ℕ} 4 0 = e in omega arith
not_0 BadTick e = let z : ◌≡◌ {A = ℕ} 8 0 = e in omega arith
not_0 DueBeyond e = let z : ◌≡◌ {A = ℕ} 9 0 = e in omega arith
not_0 NoPlace e = let z : ◌≡◌ {A = ℕ} 10 0 = e in omega arith

-- a table's line has no longer deadline than the longest
pub short_line : (s : State) → Handed s → (n : ℕ) (x : Line) → x ≡ line_at s.table.lines n → x.deadline.0 ≤ 1000000000
short_line s d n x e = subst (λ (y : Line). y.deadline.0 ≤ 1000000000) (sym e) ((handed_short s d).deadlines n)

-- a job that ends by the line of its task
pub ended_is : (s : State) (t : Tick) (x : Line) → x ≡ line_at s.table.lines (first_in (view s.list)).task → ended_by x.deadline t s ≡ ended_at t s
unfolding tallied_in response_in
ended_is s t x e = ap (λ (y : Line). ended_by y.deadline t s) e

module _ (s : State) (d : Handed s) (e : Call) where
  pub at_0 : allowed_in s e ≡ Ok tt → refusal_in s e ≡ 0
  at_0 q = ap result_number q

  pub refused_gives : (k : CallRefusal) → allowed_in s e ≡ Err k → (r : Stepped) → r ≡ refused_of s (call_number k) → CallGives s e r
  refused_gives k q r f = hand_on s d e r (f ∙ handed_refused s d e (call_number k) (sym (ap result_number q)) (not_0 k))

  -- late jobs are counted at tick t, as c has them, and the list and the kernel call are those of m
  pub accepted_gives : allowed_in s e ≡ Ok tt → (t : Tick) (c : Monitor) (m : Change) → accepted_in s e ≡ accepted_of s.table t (late_of s t) c m
      → (z : State) → z ≡ record { table = s.table; last = t; list = m.list; monitor = c } → (k : KernelCall) → k ≡ m.call → (l : Late) → l ≡ late_of s t
      → (r : Stepped) → r ≡ left_as z k l → CallGives s e r
  unfolding accepted_of
  accepted_gives q t c m w z f k g l h r n =
      hand_on s d e r (n ∙ (λ i. left_as (f i) (g i) (h i)) ∙ sym w ∙ handed_accepted s d e (at_0 q))

  -- the same of a state where it stands
  pub refused_leaves : (k : CallRefusal) → allowed_in s e ≡ Err k → (a : Answer) → a ≡ (refused_of s (call_number k)).answer → CallLeaves s e a s
  unfolding refused_of
  refused_leaves k q a f = refused_gives k q (record { state = s; answer = a }) (λ i. record { state = s; answer = f i })

  pub accepted_leaves : allowed_in s e ≡ Ok tt → (t : Tick) (c : Monitor) (m : Change) → accepted_in s e ≡ accepted_of s.table t (late_of s t) c m
      → (z : State) → z ≡ record { table = s.table; last = t; list = m.list; monitor = c } → (k : KernelCall) → k ≡ m.call → (l : Late) → l ≡ late_of s t
      → (a : Answer) → a ≡ (left_as z k l).answer → CallLeaves s e a z
  accepted_leaves q t c m w z f k g l h a n = accepted_gives q t c m w z f k g l h (record { state = z; answer = a }) (λ i. record { state = z; answer = n i })
