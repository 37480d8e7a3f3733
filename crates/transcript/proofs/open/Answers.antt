-- `transcript::open` meets its contract. Assumes nothing.
use mathlib.Core.Path.{◌≡◌, refl, sym, ap, ◌∙◌}
use mathlib.Core.Bool.{false}
use borrow.Author.Rules.{rules}
use Rattle.std.specs.Prelude.{Ok, Err}
use Rattle.rules.specs.declared.TapeRefusal.{TapeRefusal}
use Rattle.rules.specs.declared.Unopened.{Unopened}
use Rattle.rules.specs.declared.Unopened.TheVariants.{BadTable, BadTape}
use Rattle.rules.specs.declared.Verdict.{Verdict}
use Rattle.rules.specs.declared.Named.TheVariants.{NoneNamed}
use Rattle.rules.specs.Table.{verdict}
use Rattle.rules.specs.Number.{Read, bounded_at}
use Rattle.rules.specs.Tape.{greatest_byte}
use Rattle.rules.specs.Print.{count_above}
use Rattle.table.specs.Lines.{TaskTable}
use Rattle.transcript.proofs.Opens.{opened_as_lem, opens_26, opens_above, opens_unread, opens_refused, opens_accepted}
use Rattle.transcript.proofs.open.Goals as goal

pub returns-then-tape-gt-MOST_BYTES : goal.returns-then-tape-gt-MOST_BYTES
returns-then-tape-gt-MOST_BYTES c = opened_as_lem c.args.tape.now _ (sym (opens_26 c.args.tape.now c.if-tape-gt-MOST_BYTES.true))

pub returns-then-is_above : goal.returns-then-is_above
returns-then-is_above c =
    let t = c.args.tape.now in
    let refused : c.into.result ≡ verdict 1 NoneNamed = search rules in
    opened_as_lem t _ (ap (λ (v : Verdict). Err (BadTable v)) refused ∙ sym (opens_above t c.if-tape-gt-MOST_BYTES.false (sym (ap count_above c.read_count.ensures) ∙ sym c.is_above.ensures ∙ c.if-is_above.true)))

pub returns-in_err-read : goal.returns-in_err-read
returns-in_err-read c =
    let t = c.args.tape.now in
    let few : count_above (bounded_at greatest_byte t 0) ≡ false = sym (ap count_above c.read_count.ensures) ∙ sym c.is_above.ensures ∙ c.if-is_above.false in
    let out : c.from_residual.result ≡ Err c.in_err-read.field-0.0 = search rules in
    let k = unread c.read_table.result refl in
    opened_as_lem t _ (out ∙ ap (λ (u : Unopened). Err u) k.2 ∙ sym (opens_unread t c.if-tape-gt-MOST_BYTES.false few k.0 (sym c.read_table.ensures ∙ k.1)))
  where
    unread : (r : Read TaskTable) → c.read_table.result ≡ r → (k : TapeRefusal) × (c.read_table.result ≡ Err k) × (c.in_err-read.field-0.0 ≡ BadTape (record { refusal = k; place = 0 }))
    unread (Err k) e = (k, e, search rules)
    unread (Ok t) e = absurd (search rules)

pub returns-then-checked-ne0 : goal.returns-then-checked-ne0
returns-then-checked-ne0 c =
    let t = c.args.tape.now in
    let few : count_above (bounded_at greatest_byte t 0) ≡ false = sym (ap count_above c.read_count.ensures) ∙ sym c.is_above.ensures ∙ c.if-is_above.false in
    let read : c.read_table.result ≡ Ok c.in_ok-read.read = search rules in
    opened_as_lem t _ (sym (opens_refused t c.if-tape-gt-MOST_BYTES.false few _ c.check-checked.result (sym c.read_table.ensures ∙ read) c.check-checked.ensures.0 c.if-checked-ne0.true))

pub returns : goal.returns
returns c =
    let t = c.args.tape.now in
    let few : count_above (bounded_at greatest_byte t 0) ≡ false = sym (ap count_above c.read_count.ensures) ∙ sym c.is_above.ensures ∙ c.if-is_above.false in
    let read : c.read_table.result ≡ Ok c.in_ok-read.read = search rules in
    opened_as_lem t _ (sym (opens_accepted t c.if-tape-gt-MOST_BYTES.false few _ c.check-checked.result (sym c.read_table.ensures ∙ read) c.check-checked.ensures.0 c.if-checked-ne0.false))
