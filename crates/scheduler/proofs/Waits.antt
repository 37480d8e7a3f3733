-- What is answered to why a task waits is what the rule-book says of the board that the state keeps. Assumes nothing.
use Prim.Native.Nat.{ℕ}
use mathlib.Core.Path.{◌≡◌, refl, sym, ap, ◌∙◌}
use mathlib.Core.Bool.{Bool, true, false, cond}
use mathlib.Core.List.{List, [], ◌∷◌, map}
use mathlib.Core.Option.{Option, some, none}
use lib.Dec.{leb, eqb}
use Rattle.rules.specs.declared.Job.{Job as Entry}
use Rattle.rules.specs.declared.Reason.TheVariants.{ItRuns, Earlier, ThereFirst}
use Rattle.std.specs.Result.{result_and}
use Rattle.std.specs.Prelude.{Result, Ok, Err}
use Rattle.std.specs.Prelude as std
use Rattle.rules.specs.declared.Reason.{Reason}
use Rattle.rules.specs.declared.CallRefusal.{CallRefusal}
use Rattle.rules.specs.declared.CallRefusal.TheVariants.{NoTask}
use Rattle.rules.specs.Words.{◌if◌else◌, only}
use Rattle.rules.specs.Table.{Table}
use Rattle.rules.specs.Jobs.{Job, key_at}
use Rattle.rules.specs.Run.{Head, Reached}
use Rattle.rules.specs.Why.{asked, reason, why}
use Rattle.rules.proofs.First.{first_of}
use Rattle.rules.proofs.Reached.{reached_runs}
use Rattle.table.specs.Lines.{packed}
use Rattle.jobs.specs.Listed.{view, pack, is_earlier, is_of, lead_of}
use Rattle.jobs.proofs.Laid.{view_pack}
use Rattle.scheduler.specs.declared.State.{State}
use Rattle.scheduler.specs.State.{kept, state_of, Handed, why_of}
use Rattle.scheduler.specs.Steps.{reason_of, refused_if, known}
use Rattle.scheduler.proofs.Back.{table_back, head_back}
use Rattle.scheduler.proofs.Handed.{handed_by}

-- ---- the rule-book's jobs, as the list keeps them

abbrev leads : Option Job → std.Option Entry
leads none = std.None
leads (some j) = std.Some (kept j)

own_is : (n : ℕ) (l : List Job) → lead_of (only (is_of n) (map kept l)) ≡ leads (asked n l)
own_is n [] = refl
own_is n (j ∷ l) = go (eqb n j.task) (own_is n l)
  where
    go : (t : Bool) → lead_of (only (is_of n) (map kept l)) ≡ leads (asked n l)
        → lead_of (cond t (kept j ∷ only (is_of n) (map kept l)) (only (is_of n) (map kept l))) ≡ leads (cond t (some j) (asked n l))
    go true ih = refl
    go false ih = ih

first_is : (l : List Job) → lead_of (map kept l) ≡ leads (first_of l)
first_is [] = refl
first_is (j ∷ l) = refl

if_cond : {A : Type 0} (n : A) (c : Bool) (m : A) → (n if c else m) ≡ cond c n m
unfolding ◌if◌else◌
if_cond n true m = refl
if_cond n false m = refl

reason_is : (T : Table) (n : ℕ) (a r : Option Job) → reason_of n (leads a) (leads r) ≡ reason T n a r
unfolding reason key_at
reason_is T n none r = refl
reason_is T n (some a) none = refl
reason_is T n (some a) (some r) =
    sym (if_cond ItRuns (eqb n r.task) _ ∙ ap (λ z. cond (eqb n r.task) ItRuns z) (if_cond (Earlier r.task r.due) (is_earlier (kept r) (kept a)) (ThereFirst r.task r.due)))

-- ---- the answer

-- what the code answers
abbrev pub reasoned : State → ℕ → Result Reason CallRefusal
reasoned s n = Ok (reason_of n (lead_of (only (is_of n) (view s.list))) (lead_of (view s.list)))

abbrev pub why_in : State → ℕ → Result Reason CallRefusal
why_in s n = result_and (known s.table.count n) (reasoned s n)

row_before : {A : Type 0} (c : Bool) (o : Result A CallRefusal) → result_and (refused_if NoTask c) o ≡ (Err NoTask if c else o)
unfolding ◌if◌else◌
row_before true o = refl
row_before false o = refl

module _ (T : Table) (h : Head) (r : Reached T h) (n : ℕ) where
  reason_same : reason_of n (lead_of (only (is_of n) (view (pack (map kept h.board.jobs))))) (lead_of (view (pack (map kept h.board.jobs))))
      ≡ reason T n (asked n h.board.jobs) (first_of h.board.jobs)
  reason_same =
      ap (λ (xs : List Entry). reason_of n (lead_of (only (is_of n) xs)) (lead_of xs)) (view_pack (map kept h.board.jobs))
      ∙ (λ i. reason_of n (own_is n h.board.jobs i) (first_is h.board.jobs i))
      ∙ reason_is T n (asked n h.board.jobs) (first_of h.board.jobs)

  why_same : why_in (state_of T h) n ≡ why T h.board n
  unfolding state_of packed why
  why_same =
      let e = reason_same ∙ ap (reason T n (asked n h.board.jobs)) (sym (reached_runs T h r)) in
      row_before (leb (packed T.lines).count n) _ ∙ (λ i. Err NoTask if leb (packed T.lines).count n else Ok (e i))

  pub why_back_lem : why_of (state_of T h) n ≡ why T h.board n
  unfolding why_of
  why_back_lem = λ i. why (table_back T h i) (head_back T h r i).board n

why_is : (s : State) → Handed s → (n : ℕ) → why_in s n ≡ why_of s n
why_is s d n = handed_by (λ (z : State). why_in z n ≡ why_of z n) (λ T h r. why_same T h r n ∙ sym (why_back_lem T h r n)) s d

-- the two ways out
pub refused_why : (s : State) → Handed s → (n : ℕ) (k : CallRefusal) → known s.table.count n ≡ Err k → Err k ≡ why_of s n
refused_why s d n k e = ap (λ z. result_and z (reasoned s n)) (sym e) ∙ why_is s d n

pub given_why : (s : State) → Handed s → (n : ℕ) → known s.table.count n ≡ Ok tt → reasoned s n ≡ why_of s n
given_why s d n e = ap (λ z. result_and z (reasoned s n)) (sym e) ∙ why_is s d n
