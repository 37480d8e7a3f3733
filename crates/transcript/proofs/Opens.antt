-- How a tape opens: what is handed out, and that the rest of the print stands behind it. Assumes nothing.
use Prim.Native.Nat.{ℕ, ◌≤◌, ◌<◌}
use mathlib.Core.Path.{◌≡◌, refl, sym, ap, ◌∙◌, subst⁻¹}
use mathlib.Core.Bool.{Bool, true, false, cond}
use mathlib.Core.List.{List, [], ◌++◌}
use native.Mathlib.Omega.{arith}
use lib.ListN.{length}
use lib.Dec.{ltb, eqb}
use borrow.Author.Tests.{lt-ltb, le-ltb, eqb-true, ne_eqb}
use Rattle.rules.specs.declared.Tick.{Tick}
use Rattle.rules.specs.declared.Named.TheVariants.{NoneNamed}
use Rattle.rules.specs.declared.Verdict.{Verdict}
use Rattle.std.specs.Prelude.{Result, Ok, Err}
use Rattle.rules.specs.declared.Taken.{Taken}
use Rattle.rules.specs.declared.TapeRefusal.{TapeRefusal}
use Rattle.rules.specs.declared.TapeRefusal.TheVariants.{TooLong}
use Rattle.rules.specs.declared.Unopened.{Unopened}
use Rattle.rules.specs.declared.Unopened.TheVariants.{BadTable}
use Rattle.rules.specs.Words.{unless}
use Rattle.rules.specs.Table.{Table, verdict, check}
use Rattle.rules.specs.Run.{Head, fresh_head, Reached}
use Rattle.rules.specs.Number.{Read, bounded_at}
use Rattle.rules.specs.Tape.{greatest_byte, zero_tick, table_at, records_at}
use Rattle.rules.specs.Print.{ended, header_text, records_text, longest, Opened, bad_tape, table_opened, count_above, opening, opening_text, behind_text, opened_text, transcript}
use Rattle.rules.proofs.Checked.{keeps_found, found_keeps}
use Rattle.rules.proofs.Reached.{reached_fresh}
use Rattle.table.specs.Lines.{TaskTable, given}
use Rattle.tape.specs.Tables.{first_lines, table_in}
use Rattle.tape.proofs.Handing.{first_few, checks_as_read}
use Rattle.scheduler.specs.declared.Checked.{Checked}
use Rattle.scheduler.specs.State.{state_of, checked_of}
use Rattle.scheduler.proofs.Back.{table_back, head_back}
use Rattle.scheduler.proofs.Checking.{fresh_handed}
use Rattle.transcript.specs.declared.Run.{Run}
use Rattle.transcript.specs.Pieces.{opened_as, opened_of, HandedOpen, rest_text}
use Rattle.transcript.specs.Claims.{OpensAsPrinted}

-- ---- an accepted table is one that the check accepts

abbrev pub Checks : Opened → Type 0
Checks (Ok t) = (check t.value).number ≡ 0
Checks (Err u) = Unit {0}

by_test : (P : Opened → Type 0) (u : Bool) (a b : Opened) → P a → P b → P (cond u a b)
by_test P true a b f g = f
by_test P false a b f g = g

read_checks : (r : Read Table) → Checks (table_opened r)
read_checks (Err k) = tt
read_checks (Ok t) = go (eqb (check t.value).number 0) refl
  where
    go : (u : Bool) → eqb (check t.value).number 0 ≡ u → Checks (cond u (Ok t) (Err (BadTable (check t.value))))
    go true e = eqb-true _ _ e
    go false e = tt

pub opening_checks : (tape : List ℕ) → Checks (opening tape)
unfolding opening
opening_checks tape =
    by_test Checks (ltb longest (length tape)) _ _ tt (by_test Checks (count_above (bounded_at greatest_byte tape 0)) _ _ tt (read_checks (table_at tape)))

-- ---- what is handed out

pub opened_handed : (tape : List ℕ) → HandedOpen (opened_of tape)
unfolding opened_of
opened_handed tape = go (opening tape) (opening_checks tape)
  where
    go : (o : Opened) → Checks o → HandedOpen (opened_as o)
    go (Ok t) c = fresh_handed t.value c
    go (Err u) c = tt

-- the answer, and what it hands out
pub opened_as_lem : (tape : List ℕ) (r : Result Run Unopened) → r ≡ opened_of tape → (r ≡ opened_of tape) × HandedOpen r
opened_as_lem tape r e = (e, subst⁻¹ HandedOpen e (opened_handed tape))

-- ---- the check of what was read

module _ (T : Table) (r : Checked) (c : r ≡ checked_of (first_lines T.lines)) where
  verdict_is : r.verdict ≡ check T
  unfolding checked_of
  verdict_is = ap (λ (z : Checked). z.verdict) c ∙ checks_as_read T

  state_is : (check T).number ≡ 0 → r.state ≡ state_of T fresh_head
  unfolding checked_of
  state_is z =
      let all : given (first_lines T.lines) ≡ T = first_few T.lines (keeps_found T z).passes.counted.1 in
      ap (λ (z : Checked). z.state) c
      ∙ ap (λ (U : Table). state_of (unless (check U).number (record { lines = [] }) U) fresh_head) all
      ∙ ap (λ (k : ℕ). state_of (unless k (record { lines = [] }) T) fresh_head) z

-- ---- test by test

pub opens_26 : (tape : List ℕ) → longest < length tape → opened_of tape ≡ opened_as (bad_tape TooLong longest)
unfolding opened_of opening
opens_26 tape h = rw (lt-ltb longest (length tape) h)

module _ (tape : List ℕ) (short : length tape ≤ longest) where
  pub opens_above : count_above (bounded_at greatest_byte tape 0) ≡ true → opened_of tape ≡ Err (BadTable (verdict 1 NoneNamed))
  unfolding opened_of opening
  opens_above h = rw (le-ltb longest (length tape) short, h)

  module _ (few : count_above (bounded_at greatest_byte tape 0) ≡ false) where
    opens_read : opened_of tape ≡ opened_as (table_opened (table_at tape))
    unfolding opened_of opening
    opens_read = rw (le-ltb longest (length tape) short, few)

    -- the reader's answer tells what was read
    pub opens_unread : (k : TapeRefusal) → table_in (table_at tape) ≡ Err k → opened_of tape ≡ opened_as (bad_tape k 0)
    opens_unread k h = opens_read ∙ go (table_at tape) h
      where
        go : (r : Read Table) → table_in r ≡ Err k → opened_as (table_opened r) ≡ opened_as (bad_tape k 0)
        go (Err j) e = let same : j ≡ k = cc in ap (λ (i : TapeRefusal). opened_as (bad_tape i 0)) same
        go (Ok t) e = let z : ◌≡◌ {A = ℕ} 0 1 = cc in absurd (omega arith)

    -- and the check's answer whether its table is accepted
    module _ (x : Taken TaskTable) (r : Checked) (told : table_in (table_at tape) ≡ Ok x) (checked : r ≡ checked_of x.value) where
      -- what was read is the first lines of a table on the tape, and its check that of the table
      abbrev Of : Type 0
      Of = (t : Taken Table) × (table_at tape ≡ Ok t) × (r ≡ checked_of (first_lines t.value.lines)) × (t.next ≡ x.next)

      of : Of
      of = go (table_at tape) refl told
        where
          go : (a : Read Table) → table_at tape ≡ a → table_in a ≡ Ok x → Of
          go (Err k) q e = let z : ◌≡◌ {A = ℕ} 0 1 = cc in absurd (omega arith)
          go (Ok t) q e =
              let same : ◌≡◌ {A = Taken TaskTable} (record { value = first_lines t.value.lines; next = t.next }) x = cc in
              (t, q, checked ∙ ap (λ (y : Taken TaskTable). checked_of y.value) (sym same), ap (λ (y : Taken TaskTable). y.next) same)

      pub opens_refused : (r.verdict.number ≡ 0 → ⊥) → opened_of tape ≡ Err (BadTable r.verdict)
      opens_refused z =
          let t = of.0 in
          let v : r.verdict ≡ check t.value = verdict_is t.value r of.2 in
          opens_read
          ∙ ap (λ (a : Read Table). opened_as (table_opened a)) of.1
          ∙ rw (ne_eqb (check t.value).number 0 (λ y. z (ap (λ (w : Verdict). w.number) v ∙ y))) (ap (λ (w : Verdict). opened_as (Err (BadTable w))) (sym v))

      pub opens_accepted : r.verdict.number ≡ 0 → opened_of tape ≡ Ok (record { state = r.state; at = x.next; preceding = zero_tick })
      opens_accepted z =
          let t = of.0 in
          let number : (check t.value).number ≡ 0 = sym (ap (λ (w : Verdict). w.number) (verdict_is t.value r of.2)) ∙ z in
          let s : state_of t.value fresh_head ≡ r.state = sym (state_is t.value r of.2 number) in
          opens_read
          ∙ ap (λ (a : Read Table). opened_as (table_opened a)) of.1
          ∙ rw number (λ i. Ok (record { state = s i; at = of.3 i; preceding = zero_tick }))

-- ---- the rest of the print

-- what is read back from a state prints what the table and the head print
pub rest_is : (T : Table) (h : Head) → Reached T h → (tape : List ℕ) (at : ℕ) (preceding : Tick)
    → rest_text tape (record { state = state_of T h; at = at; preceding = preceding }) ≡ records_text T h.board (records_at tape at preceding)
rest_is T h r tape at preceding = λ i. records_text (table_back T h i) (head_back T h r i).board (records_at tape at preceding)

pub opens_as_printed : OpensAsPrinted
unfolding transcript opened_of
opens_as_printed tape = go (opening tape) (opening_checks tape)
  where
    go : (o : Opened) → Checks o → opened_text tape o ≡ opening_text (opened_as o) ++ behind_text (opened_as o) (rest_text tape)
    go (Ok t) c =
        ap (λ (s : List ℕ). ended header_text ++ s)
        (sym (rest_is t.value fresh_head (reached_fresh t.value (found_keeps t.value (keeps_found t.value c))) tape t.next zero_tick))
    go (Err u) c = refl
