-- A tape is run to where it stops, record by record. Assumes nothing.
use Prim.Native.Nat.{ℕ}
use mathlib.Core.Path.{◌≡◌, sym, ap, ◌∙◌}
use mathlib.Core.List.{List}
use Rattle.std.specs.Prelude.{Some, None, Ok, Err}
use Rattle.rules.specs.declared.Tick.{Tick}
use Rattle.rules.specs.declared.Call.{Call}
use Rattle.rules.specs.declared.Taken.{Taken}
use Rattle.rules.specs.Table.{Table}
use Rattle.rules.specs.Calls.{tick_of}
use Rattle.rules.specs.Run.{Head, head_next, Reached}
use Rattle.rules.specs.Tape.{RecordRead, after_record, records_at}
use Rattle.rules.proofs.Reached.{reached_next}
use Rattle.tape.proofs.Tapes.{records_step}
use Rattle.scheduler.specs.declared.State.{State}
use Rattle.scheduler.specs.declared.Stepped.{Stepped}
use Rattle.scheduler.specs.State.{state_of, Handed, told}
use Rattle.scheduler.proofs.Back.{table_back, head_back, step_is}
use Rattle.scheduler.proofs.Handed.{handed_by}
use Rattle.transcript.specs.declared.Run.{Run}
use Rattle.transcript.proofs.Lines.{some_none}
use Rattle.transcript.specs.Pieces.{called_of, read_in, halt_of, run_after, ran_by, ran_of}

module _ (T : Table) (h : Head) (r : Reached T h) (tape : List ℕ) (at : ℕ) (preceding : Tick) where
  abbrev here : Run
  here = record { state = state_of T h; at = at; preceding = preceding }

  -- what is read back from a state runs as the table and the head do
  pub ran_is : ran_of tape here ≡ ran_by T h (records_at tape at preceding)
  unfolding ran_of
  ran_is = λ i. ran_by (table_back T h i) (head_back T h r i) (records_at tape at preceding)

  ran_read : (x : RecordRead) → read_in tape here ≡ x → ran_of tape here ≡ ran_by T h (after_record at x (records_at tape))
  ran_read x e = ran_is ∙ ap (ran_by T h) (records_step tape at preceding ∙ ap (λ z. after_record at z (records_at tape)) e)

  halts : (x : RecordRead) → read_in tape here ≡ x → run_after here x ≡ None → record { state = state_of T h; halt = halt_of at x } ≡ ran_of tape here
  halts (Ok (Some t)) q o = some_none o
  halts (Ok None) q o = sym (ran_read (Ok None) q)
  halts (Err k) q o = sym (ran_read (Err k) q)

-- a record's call is made, and the run goes on behind it
goes : (T : Table) (h : Head) → Reached T h → (tape : List ℕ) (at : ℕ) (preceding : Tick) (t : Taken Call)
    → read_in tape (record { state = state_of T h; at = at; preceding = preceding }) ≡ Ok (Some t)
    → ran_of tape (called_of (record { state = state_of T h; at = at; preceding = preceding }) t.value t.next).run ≡ ran_of tape (record { state = state_of T h; at = at; preceding = preceding })
unfolding called_of told
goes T h r tape at preceding t q =
    ap (λ (z : Stepped). ran_of tape (record { state = z.state; at = t.next; preceding = tick_of t.value })) (step_is T h r t.value)
    ∙ ran_is T (head_next T h t.value) (reached_next T h r t.value) tape t.next (tick_of t.value)
    ∙ sym (ran_read T h r tape at preceding (Ok (Some t)) q)

pub ran_on : (tape : List ℕ) (x : Run) → Handed x.state → (t : Taken Call) → read_in tape x ≡ Ok (Some t) → ran_of tape (called_of x t.value t.next).run ≡ ran_of tape x
ran_on tape x d t =
    handed_by (λ (s : State). let y : Run = record { state = s; at = x.at; preceding = x.preceding } in read_in tape y ≡ Ok (Some t) → ran_of tape (called_of y t.value t.next).run ≡ ran_of tape y)
    (λ T h r. goes T h r tape x.at x.preceding t) x.state d

-- nothing is left where the reader gives no record
pub ran_stops : (tape : List ℕ) (x : Run) → Handed x.state → (y : RecordRead) → read_in tape x ≡ y → run_after x y ≡ None
    → record { state = x.state; halt = halt_of x.at y } ≡ ran_of tape x
ran_stops tape x d y q o =
    handed_by (λ (s : State). let z : Run = record { state = s; at = x.at; preceding = x.preceding } in run_after z y ≡ None → record { state = s; halt = halt_of x.at y } ≡ ran_of tape z)
    (λ T h r. halts T h r tape x.at x.preceding y q) x.state d o
