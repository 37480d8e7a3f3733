-- The claims of the check and the calls. Assumes nothing.
use Prim.Native.Nat.{ℕ, zero, suc, ◌-◌, ◌≤◌, ◌<◌}
use mathlib.Core.Path.{◌≡◌, refl, sym, ap, ◌∙◌, subst⁻¹}
use mathlib.Core.List.{List, [], ◌∷◌, map, append-nil}
use native.Mathlib.Omega.{arith}
use native.Mathlib.Decide.{dec_le}
use Rattle.rules.specs.declared.Answer.{Answer}
use Rattle.rules.specs.declared.Line.{Line}
use Rattle.rules.specs.declared.Verdict.{Verdict}
use Rattle.rules.specs.declared.Call.{Call}
use Rattle.rules.specs.Words.{unless, places}
use Rattle.rules.specs.declared.Named.TheVariants.{NoneNamed}
use Rattle.rules.specs.Table.{Table, Keeps, size, fine, verdict, check}
use Rattle.rules.specs.Statement.{row_1}
use Rattle.rules.specs.Calls.{tick_of}
use Rattle.rules.specs.Layer.{Board, fresh, next, answer, result, marked, done, late_tasks}
use Rattle.rules.specs.Counts.{with_late, with_ended, ending}
use Rattle.rules.specs.Plain.{Plain, start, plain_next}
use Rattle.rules.specs.Run.{answers, Head, fresh_head, head_next, head_run, Reached}
use Rattle.rules.specs.Why.{why}
use Rattle.rules.proofs.Outcome.{only}
use Rattle.rules.proofs.Checked.{keeps_found, found_keeps, check_exact}
use Rattle.rules.proofs.Demand3.{Both, fresh_both, next_both, results_alike, same_choice}
use Rattle.rules.proofs.Reached.{head_board, reached_fresh, reached_next}
use Rattle.table.specs.Lines.{TaskTable}
use Rattle.jobs.specs.Listed.{pack}
use Rattle.table.specs.Lines.{packed, lines_in, given}
use Rattle.table.proofs.Packed.{kept_lines, count_packed, packed_length}
use Rattle.table.proofs.Laws.{given_size}
use Rattle.scheduler.specs.declared.State.{State}
use Rattle.scheduler.specs.declared.Stepped.{Stepped}
use Rattle.scheduler.specs.State.{state_of, table_of, Handed, checked_for, checked_of, told, step_of, why_of}
use Rattle.scheduler.specs.declared.Checked.{Checked}
use Rattle.scheduler.specs.Claims.{ReadsBack, CopyOf, AnswersEvery, Fresh, GivesFresh, HandedExactly, RefusedUnchanged, OneChecked, OneCalled, checked, state_after, answered, plain_results, plain_choices, RunsAsRuled, WhyAsRuled, Claims}
use Rattle.scheduler.proofs.Back.{table_back, head_back, step_is}
use Rattle.scheduler.proofs.Handed.{handed_by}
use Rattle.scheduler.proofs.Waits.{why_back_lem}

reads_back : ReadsBack
reads_back T h r = record { table = table_back T h; head = head_back T h r }

-- ---- the check

-- past 32 lines every table is refused with 1
over : (U : Table) → places < size U → check U ≡ verdict 1 NoneNamed
over U m = (check_exact U (verdict 1 NoneNamed)).1 (row_1 (λ w. omega (arith, w.1)))

pub told_over : (U : Table) → places < size U → checked_for U ≡ record { state = state_of (record { lines = [] }) fresh_head; verdict = verdict 1 NoneNamed }
told_over U m = λ i. record { state = state_of (unless (over U m i).number (record { lines = [] }) U) fresh_head; verdict = over U m i }

-- a copy gives its table, or one of as many lines
module _ (T : Table) (g : TaskTable) (c : CopyOf T g) where
  copy_few : size T ≤ places → given g ≡ T
  copy_few m =
      let z : g.count - places ≡ 0 = omega (arith, c.counted) in
      ap (λ (ls : List Line). record { lines = ls }) (rw z (append-nil (lines_in g)) ∙ c.copied m)

  copy_told : Dec (size T ≤ places) → checked_for (given g) ≡ checked_for T
  copy_told (yes m) = ap checked_for (copy_few m)
  copy_told (no m) =
      let b : places < size T = omega arith in
      told_over (given g) (omega (arith, given_size g c.placed, c.counted)) ∙ sym (told_over T b)

fresh_for : (T : Table) → check T ≡ fine → Handed (checked_for T).state
fresh_for T a =
    subst⁻¹ (λ (v : Verdict). Handed (state_of (unless v.number (record { lines = [] }) T) fresh_head)) a
    (record { table = T; head = fresh_head; reached = reached_fresh T a; is = refl })

answers_every : AnswersEvery
unfolding checked_of
answers_every T g c =
    let e = copy_told T g c (dec_le (size T) places) in
    record {
      gives = e;
      hands_out = λ a. subst⁻¹ Handed (ap (λ (z : Checked). z.state) e) (fresh_for T a);
    }

fresh_of_lem : (T : Table) → Fresh T.lines (state_of T fresh_head)
unfolding state_of pack
fresh_of_lem T = record { lines = kept_lines T.lines; jobs = refl; tick = refl; counts = refl }

gives_fresh : GivesFresh
gives_fresh T = record { accepted = (go (check T).number).0; refused = (go (check T).number).1 }
  where
    none : Table
    none = record { lines = [] }

    go : (n : ℕ) → let s = state_of (unless n none T) fresh_head in (n ≡ 0 → Fresh T.lines s) × ((n ≡ 0 → ⊥) → Fresh [] s)
    go zero = (λ z. fresh_of_lem T, λ f. absurd (f refl))
    go (suc n) = (λ z. absurd (omega (arith, z)), λ f. fresh_of_lem none)

-- after a refusal the state is one of no lines, and no table of no lines is accepted
handed_exactly : HandedExactly
handed_exactly T = (go (check T).number, λ z. fresh_for T (found_keeps T (keeps_found T z)))
  where
    go : (n : ℕ) → Handed (state_of (unless n (record { lines = [] }) T) fresh_head) → n ≡ 0
    go zero d = refl
    go (suc n) d =
        let none : Table = record { lines = [] } in
        let e : none ≡ d.table = sym (table_back none fresh_head) ∙ ap table_of d.is ∙ table_back d.table d.head in
        let z : (check none).number ≡ 0 = ap (λ (U : Table). (check U).number) e ∙ ap (λ (v : Verdict). v.number) d.reached.accepted in
        omega (arith, (keeps_found none z).passes.counted.0)

-- a table that is laid out is a copy of itself
copy_packed : (T : Table) → size T ≤ places → CopyOf T (packed T.lines)
copy_packed T m = record { counted = count_packed T.lines; placed = packed_length T.lines m; copied = λ _. kept_lines T.lines }

-- the check of an accepted table, laid out, gives what the check of the table does
pub checked_fresh : (T : Table) → check T ≡ fine → checked T ≡ (checked_for T).state
checked_fresh T a =
    let m = (keeps_found T (ap (λ (v : Verdict). v.number) a)).passes.counted.1 in
    ap (λ (z : Checked). z.state) (answers_every T (packed T.lines) (copy_packed T m)).gives

checked_is : (T : Table) → check T ≡ fine → checked T ≡ state_of T fresh_head
checked_is T a = checked_fresh T a ∙ ap (λ (v : Verdict). state_of (unless v.number (record { lines = [] }) T) fresh_head) a

-- ---- refused calls

-- what the head becomes, given the result's number
abbrev head_by : Table → Head → Call → ℕ → Head
head_by T h e k =
    record {
      board = unless k h.board (done T (marked (tick_of e) h.board) e);
      tallies = unless k h.tallies (with_ended (tick_of e) (ending T h.board e) (with_late (late_tasks T h.board e) h.tallies));
    }

refused_unchanged : RefusedUnchanged
unfolding told
refused_unchanged s d e = handed_by (λ (z : State). ((step_of z e).answer.result ≡ 0 → ⊥) → (step_of z e).state ≡ z) same s d
  where
    stays : (T : Table) (h : Head) (k : ℕ) → (k ≡ 0 → ⊥) → head_by T h e k ≡ h
    stays T h zero n = absurd (n refl)
    stays T h (suc k) n = refl

    same : (T : Table) (h : Head) → Reached T h → ((step_of (state_of T h) e).answer.result ≡ 0 → ⊥) → (step_of (state_of T h) e).state ≡ state_of T h
    same T h r n =
        ap (λ (z : Stepped). z.state) (step_is T h r e)
        ∙ ap (state_of T) (stays T h (result T h.board e) (λ z. n (ap (λ (y : Stepped). y.answer.result) (step_is T h r e) ∙ z)))

-- ---- whole runs

-- a call's answer and next state, for a reached head
module _ (T : Table) where
  next_state : (h : Head) → Reached T h → (e : Call) → (step_of (state_of T h) e).state ≡ state_of T (head_next T h e)
  unfolding told
  next_state h r e = ap (λ (z : Stepped). z.state) (step_is T h r e)

  next_answer : (h : Head) → Reached T h → (e : Call) → (step_of (state_of T h) e).answer ≡ answer T h.board e
  unfolding told
  next_answer h r e = ap (λ (z : Stepped). z.answer) (step_is T h r e)

  answers_from : (h : Head) → Reached T h → (es : List Call) → answered (state_of T h) es ≡ answers T h.board es
  answers_from h r [] = refl
  answers_from h r (e ∷ es) =
      λ i. next_answer h r e i ∷ (ap (λ (z : State). answered z es) (next_state h r e) ∙ answers_from (head_next T h e) (reached_next T h r e) es) i

  state_from : (h : Head) → Reached T h → (es : List Call) → state_after (state_of T h) es ≡ state_of T (head_run T h es)
  state_from h r [] = refl
  state_from h r (e ∷ es) = ap (λ (z : State). state_after z es) (next_state h r e) ∙ state_from (head_next T h e) (reached_next T h r e) es

  -- the rule-book's answers against the plain scheduler
  module _ (keeps : Keeps T) where
    results_from : (b : Board) (p : Plain) → Both T b p → (es : List Call) → map (λ (a : Answer). a.result) (answers T b es) ≡ plain_results T p es
    results_from b p h [] = refl
    results_from b p h (e ∷ es) =
        λ i. results_alike T keeps b p h.good h.related e i ∷ results_from (next T b e) (plain_next T p e) (next_both T keeps b p h e) es i

    running_from : (b : Board) (p : Plain) → Both T b p → (es : List Call) → map (λ (a : Answer). a.running) (answers T b es) ≡ plain_choices T p es
    running_from b p h [] = refl
    running_from b p h (e ∷ es) =
        let n = next_both T keeps b p h e in
        λ i. same_choice T keeps (next T b e) (plain_next T p e) n.good n.related i ∷ running_from (next T b e) (plain_next T p e) n es i

runs_as_ruled : RunsAsRuled
runs_as_ruled T a calls =
    let keeps = keeps_found T (ap (λ (v : Verdict). v.number) a) in
    let r = reached_fresh T a in
    let c = checked_is T a in
    let told-so : answered (checked T) calls ≡ answers T fresh calls = ap (λ (z : State). answered z calls) c ∙ answers_from T fresh_head r calls in
    record {
      answers_are = told-so;
      state_is = ap (λ (z : State). state_after z calls) c ∙ state_from T fresh_head r calls;
      results_plain = ap (map (λ (z : Answer). z.result)) told-so ∙ results_from T keeps fresh start (fresh_both T) calls;
      running_plain = ap (map (λ (z : Answer). z.running)) told-so ∙ running_from T keeps fresh start (fresh_both T) calls;
    }

-- ---- the question

why_as_ruled : WhyAsRuled
why_as_ruled T a calls n =
    let h = head_run T fresh_head calls in
    ap (λ (z : State). why_of z n) (runs_as_ruled T a calls).state_is
    ∙ why_back_lem T h (record { accepted = a; calls = calls; is = refl }) n
    ∙ ap (λ (b : Board). why T b n) (head_board T fresh_head calls)

-- ---- one outcome

one_checked : OneChecked
one_checked g r r' p q = only p.0 q.0

one_called : OneCalled
one_called s e r r' p q = only p.0 q.0

pub the_claims : Claims
the_claims =
    record {
      reads_back = reads_back;
      answers_every = answers_every;
      gives_fresh = gives_fresh;
      handed_exactly = handed_exactly;
      refused_unchanged = refused_unchanged;
      one_checked = one_checked;
      one_called = one_called;
      runs_as_ruled = runs_as_ruled;
      why_as_ruled = why_as_ruled;
    }
