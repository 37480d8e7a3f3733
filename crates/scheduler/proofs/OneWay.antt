-- What is decided first and changed then is the rule-book's step, for a call that is accepted and for one that is refused, where both go one way. Assumes nothing.
use Prim.Native.Nat.{ℕ}
use mathlib.Core.Path.{◌≡◌, refl, sym, ap, ◌∙◌}
use mathlib.Core.Bool.{Bool, true, false, cond, not, ◌&&◌}
use mathlib.Core.List.{List, [], ◌∷◌, map}
use lib.Dec.{eqb}
use borrow.Author.Tests.{eqb-true, eqb-false}
use Rattle.rules.specs.declared.Job.{Job as Entry}
use Rattle.rules.specs.declared.Tick.{Tick}
use Rattle.rules.specs.declared.Late.{Late}
use Rattle.rules.specs.declared.Call.{Call}
use Rattle.rules.specs.Answers.{Choice}
use Rattle.rules.specs.declared.KernelCall.{KernelCall}
use Rattle.rules.specs.declared.KernelCall.TheVariants.{NoCall}
use Rattle.rules.specs.Words.{only}
use Rattle.rules.specs.Late.{is_past}
use Rattle.jobs.specs.declared.JobList.{JobList}
use Rattle.jobs.specs.Listed.{view, is_newly_late, late_in, newly_late_in}
use Rattle.monitor.specs.declared.Monitor.{Monitor}
use Rattle.scheduler.specs.declared.State.{State}
use Rattle.scheduler.specs.declared.Stepped.{Stepped}
use Rattle.scheduler.specs.State.{Handed, step_of}
use Rattle.scheduler.specs.Steps.{Change, choice_in, late_counted, refused_of, accepted_of, late_of}
use Rattle.scheduler.proofs.Rows.{refusal_in}
use Rattle.scheduler.proofs.Whole.{accepted_in}
use Rattle.scheduler.proofs.Handed.{handed_refused, handed_accepted}

-- ---- where time does not move no job is newly late, and nothing is counted

none_late : (last : Tick) (xs : List Entry) → only (is_newly_late last last) xs ≡ []
none_late last [] = refl
none_late last (x ∷ xs) = go (is_past last x.due) (none_late last xs)
  where
    go : (p : Bool) → only (is_newly_late last last) xs ≡ [] → cond (p && not p) (x ∷ only (is_newly_late last last) xs) (only (is_newly_late last last) xs) ≡ []
    go true ih = ih
    go false ih = ih

late_still : (last : Tick) (xs : List Entry) → newly_late_in last last xs ≡ late_in []
unfolding newly_late_in
late_still last xs = ap (λ (l : List Entry). late_in (map (λ (x : Entry). x.task) l)) (none_late last xs)

count_none : (c : Monitor) → late_counted (late_in []) c ≡ c
unfolding late_counted late_in
count_none c = refl

-- what is the same either way
pub same_if : {A : Type 0} (b : Bool) (x : A) → x ≡ cond b x x
same_if true x = refl
same_if false x = refl

-- ---- the whole

-- the parts as the code puts them together
abbrev pub made : State → Tick → JobList → Monitor → ℕ → Choice → KernelCall → Late → Stepped
made s now list monitor k run call late =
    record {
      state = record { table = s.table; last = now; list = list; monitor = monitor };
      answer = record { result = k; running = run; call = call; late = late };
    }

-- what each part is: that of change m and counts acc at tick t where the call is accepted, and the unchanged one where it is refused
pub record Parts (s : State) (b : Bool) (t : Tick) (m : Change) (acc : Late → Monitor) (now : Tick) (list : JobList) (monitor : Monitor) (run : Choice) (call : KernelCall) (late : Late) : Type 0 where
  pub time : now ≡ cond b t s.last
  pub lates : late ≡ newly_late_in s.last now (view s.list)
  pub jobs : list ≡ cond b m.list s.list
  pub tallies : monitor ≡ cond b (acc late) (late_counted late s.monitor)
  pub runs : run ≡ choice_in (view list)
  pub calls : call ≡ cond b m.call NoCall

pub decided : (s : State) → Handed s → (e : Call) (k : ℕ) (b : Bool) → k ≡ refusal_in s e → b ≡ eqb k 0
    → (t : Tick) (m : Change) (acc : Late → Monitor) → accepted_in s e ≡ accepted_of s.table t (late_of s t) (acc (late_of s t)) m
    → (now : Tick) (list : JobList) (monitor : Monitor) (run : Choice) (call : KernelCall) (late : Late) → Parts s b t m acc now list monitor run call late
    → made s now list monitor k run call late ≡ step_of s e
unfolding refused_of accepted_of
decided s d e k true q a t m acc w now list monitor run call late p =
    let z : k ≡ 0 = eqb-true k 0 (sym a) in
    let l : late ≡ late_of s t = p.lates ∙ ap (λ (x : Tick). newly_late_in s.last x (view s.list)) p.time in
    let c : monitor ≡ acc (late_of s t) = p.tallies ∙ ap acc l in
    let r : run ≡ choice_in (view m.list) = p.runs ∙ ap (λ (x : JobList). choice_in (view x)) p.jobs in
    (λ i. made s (p.time i) (p.jobs i) (c i) (z i) (r i) (p.calls i) (l i)) ∙ sym w ∙ handed_accepted s d e (sym q ∙ z)
decided s d e k false q a t m acc w now list monitor run call late p =
    let l : late ≡ late_in [] = p.lates ∙ ap (λ (x : Tick). newly_late_in s.last x (view s.list)) p.time ∙ late_still s.last (view s.list) in
    let c : monitor ≡ s.monitor = p.tallies ∙ ap (λ (x : Late). late_counted x s.monitor) l ∙ count_none s.monitor in
    let r : run ≡ choice_in (view s.list) = p.runs ∙ ap (λ (x : JobList). choice_in (view x)) p.jobs in
    (λ i. made s (p.time i) (p.jobs i) (c i) k (r i) (p.calls i) (l i)) ∙ handed_refused s d e k q (eqb-false k 0 (sym a))

pub accepted_if : (k m : ℕ) (b : Bool) → k ≡ m → b ≡ eqb k 0 → b ≡ true → m ≡ 0
accepted_if k m b q a t = sym q ∙ eqb-true k 0 (sym a ∙ t)
