-- What may be used of a state that was handed out. Assumes nothing.
use Prim.Native.Nat.{ℕ, ◌≤◌, ◌<◌}
use mathlib.Core.Path.{◌≡◌, refl, sym, ap, ◌∙◌, subst⁻¹}
use mathlib.Core.List.{List, [], ◌∷◌, map}
use mathlib.Core.Option.{none}
use native.Mathlib.Omega.{arith}
use native.Mathlib.Decide.{dec_lt}
use lib.ListN.{length, get_or-eq_default}
use Rattle.rules.specs.Words.{places}
use Rattle.rules.specs.declared.Tick.{Tick}
use Rattle.rules.specs.declared.Line.{Line}
use Rattle.rules.specs.declared.Call.{Call}
use Rattle.rules.specs.declared.Call.TheVariants.{Activate, Terminate, Chain}
use Rattle.rules.specs.Table.{Table, size, no_line, line_of, greatest, deadline_of, Passes}
use Rattle.rules.specs.Jobs.{Job}
use Rattle.rules.specs.Layer.{running, viewed, result}
use Rattle.rules.specs.Run.{Head, head_next, Reached}
use Rattle.rules.proofs.Order.{Higher}
use Rattle.rules.proofs.Allowed.{allowed}
use Rattle.rules.proofs.Reached.{reached_next, reached_good, reached_room, reached_task, reached_keeps}
use Rattle.jobs.specs.Listed.{view, pack, Shaped, Sorted}
use Rattle.jobs.proofs.Laid.{view_pack, pack_shaped}
use Rattle.scheduler.specs.declared.State.{State}
use Rattle.scheduler.specs.declared.Stepped.{Stepped}
use Rattle.scheduler.specs.State.{kept, state_of, Handed, told, step_of}
use Rattle.scheduler.specs.Steps.{Short, refused_of}
use Rattle.scheduler.proofs.Back.{line_is, step_is}
use Rattle.scheduler.proofs.Parts.{length_kept, length_tasks, sorted_is}
use Rattle.scheduler.proofs.Rows.{refusal_in, rows_are}
use Rattle.scheduler.proofs.Whole.{accepted_in, refused_is, accepted_is}
use Rattle.rules.specs.Statement.{first_task}

-- what holds of every table and head that is reached holds of every state that was handed out
pub handed_by : (P : State → Type 0) → ((T : Table) (h : Head) → Reached T h → P (state_of T h)) → (s : State) → Handed s → P s
handed_by P p s d = subst⁻¹ P d.is (p d.table d.head d.reached)

-- ---- the state

pub handed_shaped : (s : State) → Handed s → Shaped s.list
unfolding state_of
handed_shaped = handed_by (λ (s : State). Shaped s.list) shaped
  where
    shaped : (T : Table) (h : Head) → Reached T h → Shaped (state_of T h).list
    shaped T h r = pack_shaped (map kept h.board.jobs) (omega (arith, length_kept h.board.jobs, reached_room T h r))

pub handed_sorted : (s : State) → Handed s → Sorted (view s.list)
unfolding state_of
handed_sorted = handed_by (λ (s : State). Sorted (view s.list)) sorted
  where
    sorted : (T : Table) (h : Head) → Reached T h → Sorted (view (state_of T h).list)
    sorted T h r = subst⁻¹ Sorted (view_pack (map kept h.board.jobs)) (sorted_is T (Higher T) h.board.jobs (reached_good T h r).lined.ordered)

-- a line's relative deadline is in range, and a blank one's is 0
pub handed_short : (s : State) → Handed s → Short s.table
unfolding state_of
handed_short = handed_by (λ (s : State). Short s.table) short
  where
    listed : (T : Table) → Passes T → (n : ℕ) → Dec (n < size T) → (deadline_of T n).0 ≤ 1000000000
    listed T p n (yes h) = (p.ranged n h).deadline.1
    listed T p n (no h) = let e : line_of T n ≡ no_line = get_or-eq_default T.lines no_line (omega arith) in subst⁻¹ (λ (x : Line). x.deadline.0 ≤ 1000000000) e (omega arith)

    short : (T : Table) (h : Head) → Reached T h → Short (state_of T h).table
    short T h r =
        record {
          deadlines = λ n. rw (line_is T n) (listed T (reached_keeps T h r).passes n (dec_lt n (size T)));
        }

-- ---- the call

pub handed_refused : (s : State) → Handed s → (e : Call) (k : ℕ) → k ≡ refusal_in s e → (k ≡ 0 → ⊥) → refused_of s k ≡ step_of s e
handed_refused s d e k = handed_by (λ (z : State). k ≡ refusal_in z e → (k ≡ 0 → ⊥) → refused_of z k ≡ step_of z e) refused s d
  where
    refused : (T : Table) (h : Head) → Reached T h → k ≡ refusal_in (state_of T h) e → (k ≡ 0 → ⊥) → refused_of (state_of T h) k ≡ step_of (state_of T h) e
    refused T h r q n =
        let z : k ≡ result T h.board e = q ∙ rows_are T h r e in
        ap (refused_of (state_of T h)) z ∙ refused_is T h r e (λ w. n (z ∙ w)) ∙ sym (step_is T h r e)

pub handed_accepted : (s : State) → Handed s → (e : Call) → refusal_in s e ≡ 0 → accepted_in s e ≡ step_of s e
handed_accepted s d e = handed_by (λ (z : State). refusal_in z e ≡ 0 → accepted_in z e ≡ step_of z e) done s d
  where
    done : (T : Table) (h : Head) → Reached T h → refusal_in (state_of T h) e ≡ 0 → accepted_in (state_of T h) e ≡ step_of (state_of T h) e
    done T h r q = accepted_is T h r e (sym (rows_are T h r e) ∙ q) ∙ sym (step_is T h r e)

-- what a call leaves was handed out too
pub hand_on : (s : State) → Handed s → (e : Call) (r : Stepped) → r ≡ step_of s e → (r ≡ step_of s e) × Handed r.state
unfolding told
hand_on s d e r q = (q, subst⁻¹ (λ (z : Stepped). Handed z.state) q (handed_by (λ (z : State). Handed (step_of z e).state) next s d))
  where
    next : (T : Table) (h : Head) → Reached T h → Handed (step_of (state_of T h) e).state
    next T h r =
        subst⁻¹ (λ (z : Stepped). Handed z.state) (step_is T h r e)
        (record { table = T; head = head_next T h e; reached = reached_next T h r e; is = refl })

-- ---- an accepted call

-- there is room for the job of an activation
pub handed_room : (s : State) → Handed s → (t : Tick) (n : ℕ) → refusal_in s (Activate t n) ≡ 0 → s.list.count < places
unfolding state_of pack
handed_room s d t n = handed_by (λ (z : State). refusal_in z (Activate t n) ≡ 0 → z.list.count < places) room s d
  where
    room : (T : Table) (h : Head) → Reached T h → refusal_in (state_of T h) (Activate t n) ≡ 0 → (state_of T h).list.count < places
    room T h r q =
        let a = allowed T (viewed T h.board) (Activate t n) (sym (rows_are T h r (Activate t n)) ∙ q) in
        omega (arith, a.room, length_tasks h.board.jobs)

-- a call that ends a job: there is one, and the tick is none above the greatest
pub record Ends (s : State) (t : Tick) : Type 0 where
  pub some_one : 0 < s.list.count
  pub in_time : t.0 ≤ greatest.0

one_pending : (l : List Job) → (first_task l ≡ none → ⊥) → 0 < length (map kept l)
one_pending [] n = absurd (n refl)
one_pending (j ∷ l) n = omega arith

ends_of : (t : Tick) (T : Table) (h : Head) → Reached T h → (running T h.board ≡ none → ⊥) → t.0 ≤ greatest.0 → Ends (state_of T h) t
unfolding state_of pack
ends_of t T h r n m = record { some_one = one_pending h.board.jobs (λ e. n (reached_task T h r ∙ e)); in_time = m }

pub terminate_ends : (s : State) → Handed s → (t : Tick) → refusal_in s (Terminate t) ≡ 0 → Ends s t
terminate_ends s d t = handed_by (λ (z : State). refusal_in z (Terminate t) ≡ 0 → Ends z t) ends s d
  where
    ends : (T : Table) (h : Head) → Reached T h → refusal_in (state_of T h) (Terminate t) ≡ 0 → Ends (state_of T h) t
    ends T h r q =
        let a = allowed T (viewed T h.board) (Terminate t) (sym (rows_are T h r (Terminate t)) ∙ q) in
        ends_of t T h r a.runs a.time.not_over

pub chain_ends : (s : State) → Handed s → (t : Tick) (n : ℕ) → refusal_in s (Chain t n) ≡ 0 → Ends s t
chain_ends s d t n = handed_by (λ (z : State). refusal_in z (Chain t n) ≡ 0 → Ends z t) ends s d
  where
    ends : (T : Table) (h : Head) → Reached T h → refusal_in (state_of T h) (Chain t n) ≡ 0 → Ends (state_of T h) t
    ends T h r q =
        let a = allowed T (viewed T h.board) (Chain t n) (sym (rows_are T h r (Chain t n)) ∙ q) in
        ends_of t T h r a.runs a.time.not_over
