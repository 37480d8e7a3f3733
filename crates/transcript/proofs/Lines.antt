-- The print goes line by line. Assumes nothing.
use Prim.Native.Nat.{ℕ, ◌+◌, ◌-◌, ◌≤◌, ◌<◌}
use mathlib.Core.Path.{◌≡◌, refl, sym, ap, ◌∙◌, subst⁻¹}
use mathlib.Core.Bool.{Bool, true, false, not}
use mathlib.Core.Logic.{◌⊎◌, inl, inr, ⊎_elim}
use Rattle.std.specs.Prelude.{Option, Some, None, Ok, Err, IfSome}
use native.Mathlib.Omega.{arith}
use lib.ListN.{length, take, length-append, length-take}
use lib.Seq.{sets, length-sets, sets-eq, take_all, take-append_seam}
use mathlib.Core.List.{List, ◌++◌, append-nil, append_assoc}
use Rattle.rules.specs.declared.Tick.{Tick}
use Rattle.rules.specs.Table.{Table}
use Rattle.rules.specs.Calls.{tick_of}
use Rattle.rules.specs.Layer.{next, answer}
use Rattle.rules.specs.Run.{Head, head_next, Reached}
use Rattle.rules.specs.Number.{tape_number}
use Rattle.rules.specs.Tape.{RecordRead, after_record, records_at}
use Rattle.rules.specs.Print.{ended, answer_text, tape_text, calls_text, records_text}
use Rattle.rules.proofs.Reached.{reached_next}
use Rattle.tape.proofs.Records.{forward}
use Rattle.tape.proofs.Tapes.{records_step}
use Rattle.scheduler.specs.declared.State.{State}
use Rattle.scheduler.specs.declared.Stepped.{Stepped}
use Rattle.scheduler.specs.State.{state_of, Handed, told, step_of}
use Rattle.scheduler.proofs.Back.{step_is}
use Rattle.scheduler.proofs.Handed.{handed_by}
use Rattle.transcript.specs.declared.Run.{Run}
use Rattle.print.specs.Buffers.{fits_at, Put}
use Rattle.transcript.specs.Pieces.{called_of, read_in, halt_of, halt_text, line_text, run_after, rest_text, left_text, buffer_room, line_most, NextLine, Piece}
use Rattle.transcript.specs.Claims.{LineByLine}
use Rattle.transcript.proofs.Opens.{rest_is}
use Rattle.transcript.proofs.Fits.{lines_fit}

pub some_none : {A B : Type 0} {x : A} → Some x ≡ None → B
some_none e = let z : ◌≡◌ {A = ℕ} 0 1 = cc in absurd (omega arith)

module _ (T : Table) (h : Head) (r : Reached T h) (tape : List ℕ) (at : ℕ) (preceding : Tick) where
  abbrev here : Run
  here = record { state = state_of T h; at = at; preceding = preceding }

  -- what is read here, and what is printed from here on
  abbrev Prints : RecordRead → Type 0
  Prints x = records_text T h.board (after_record at x (records_at tape)) ≡ line_text here x ++ left_text tape (run_after here x)

  prints : (x : RecordRead) → Prints x
  unfolding calls_text called_of told
  prints (Ok (Some t)) =
      let e = t.value in
      let s : step_of (state_of T h) e ≡ told T h e = step_is T h r e in
      let line : ended (answer_text (tick_of e) (answer T h.board e)) ≡ line_text here (Ok (Some t)) =
      ap (λ (z : Stepped). ended (answer_text (tick_of e) z.answer)) (sym s) in
      let rest : records_text T (next T h.board e) (records_at tape t.next (tick_of e)) ≡ rest_text tape (called_of here e t.next).run =
      sym (rest_is T (head_next T h e) (reached_next T h r e) tape t.next (tick_of e))
      ∙ ap (λ (z : Stepped). rest_text tape (record { state = z.state; at = t.next; preceding = tick_of e })) (sym s) in
      append_assoc (ended (answer_text (tick_of e) (answer T h.board e))) _ _
      ∙ (λ i. line i ++ rest i)
  prints (Ok None) = refl
  prints (Err k) = sym (append-nil (ended (tape_text (tape_number k) at)))

  by_line : rest_text tape here ≡ line_text here (read_in tape here) ++ left_text tape (run_after here (read_in tape here))
  by_line = rest_is T h r tape at preceding ∙ ap (records_text T h.board) (records_step tape at preceding) ∙ prints (read_in tape here)

pub line_by_line : LineByLine
line_by_line tape x d =
    handed_by (λ (s : State). let y : Run = record { state = s; at = x.at; preceding = x.preceding } in
    rest_text tape y ≡ line_text y (read_in tape y) ++ left_text tape (run_after y (read_in tape y)))
    (λ T h r. by_line T h r tape x.at x.preceding) x.state d

-- ---- where the run goes on it goes ahead

abbrev pub Ahead : List ℕ → Run → Option Run → Type 0
Ahead tape x r = IfSome r (λ (y : Run). (x.at < y.at) × (y.at ≤ length tape))

goes_ahead : (tape : List ℕ) (x : Run) → Ahead tape x (run_after x (read_in tape x))
unfolding called_of
goes_ahead tape x = go (read_in tape x) refl
  where
    go : (r : RecordRead) → read_in tape x ≡ r → Ahead tape x (run_after x r)
    go (Ok (Some t)) q = forward tape x.at x.preceding t.value t.next q
    go (Ok None) q = tt
    go (Err k) q = tt

-- ---- the buffer

-- where a text is sure to fit it stands in the buffer whole
pub put_whole : (old new text : List ℕ) (at next : ℕ) → Put old at text new next → at + length text ≤ length old
    → (next ≡ at + length text) × (length new ≡ length old) × (take next new ≡ take at old ++ text)
put_whole old new text at next p h =
    let all : fits_at old at text ≡ text = take_all (length old - at) text (omega arith) in
    let place : next ≡ at + length text = p.place ∙ ap (λ (t : List ℕ). at + length t) all in
    let is : new ≡ sets old at text = p.is ∙ ap (sets old at) all in
    let long : at + length text ≡ length (take at old ++ text) = omega (arith, length-append (take at old) text, length-take at old) in
    (place, ap length is ∙ length-sets old at text, rw (is, place, sets-eq text old at h, long) (take-append_seam (take at old ++ text) _))

-- the place behind a text, whether it fits or not
pub put_most : {old new text : List ℕ} {at next : ℕ} → Put old at text new next → next ≤ at + length text
put_most {old} {new} {text} {at} p = omega (arith, p.place, length-take (length old - at) text)

pub put_length : {old new text : List ℕ} {at next : ℕ} → Put old at text new next → length new ≡ length old
put_length {old} {new} {text} {at} p = ap length p.is ∙ length-sets old at (fits_at old at text)

-- a line is a piece of the print
pub line_piece : (tape : List ℕ) (x : Run) (old : List ℕ) (at : ℕ) (r : Option Run) (new : List ℕ) (next : ℕ) → Handed x.state → at + line_most ≤ length old
    → NextLine tape x old at r new next → Piece tape x old at r new next
line_piece tape x old at r new next d room l =
    let fits : length (line_text x (read_in tape x)) ≤ line_most = lines_fit tape x d in
    let w = put_whole old new (line_text x (read_in tape x)) at next l.line (omega arith) in
    record {
      room = omega (arith, w.0, w.1);
      same = w.1;
      is =
          (λ i. w.2 i ++ left_text tape (l.run i))
          ∙ append_assoc (take at old) (line_text x (read_in tape x)) _
          ∙ ap (λ (s : List ℕ). take at old ++ s) (sym (line_by_line tape x d));
      ahead = subst⁻¹ (Ahead tape x) l.run (goes_ahead tape x);
      handed = l.handed;
    }

-- ---- what stops a run

-- the line of an answer of the reader that is no record
pub stops : (x : Run) (r : RecordRead) → run_after x r ≡ None → halt_text (halt_of x.at r) ≡ line_text x r
stops x (Ok (Some t)) h = some_none h
stops x (Ok None) h = refl
stops x (Err k) h = refl

-- ---- a piece of lines

pub not-true : (b : Bool) → not b ≡ true → b ≡ false
not-true true h = sym h
not-true false h = refl

pub not-false : (b : Bool) → not b ≡ false → b ≡ true
not-false true h = refl
not-false false h = sym h

-- so many lines from the place `at` on; the run has come from x to `now`
pub record SoFar (tape : List ℕ) (x : Run) (old : List ℕ) (at : ℕ) (now : Run) (next : ℕ) (new : List ℕ) : Type 0 where
  pub long : length old ≡ buffer_room
  pub same : length new ≡ length old
  pub room : next ≤ buffer_room
  pub is : take next new ++ rest_text tape now ≡ take at old ++ rest_text tape x
  pub on : x.at ≤ now.at
  pub begun : (next ≡ at) ⊎ ((x.at < now.at) × (now.at ≤ length tape))
  pub handed : Handed now.state

pub so_far_none : (tape : List ℕ) (x : Run) (old : List ℕ) (at : ℕ) → length old ≡ buffer_room → at + line_most ≤ buffer_room → Handed x.state → SoFar tape x old at x at old
so_far_none tape x old at l h d = record { long = l; same = refl; room = omega arith; is = refl; on = omega arith; begun = inl refl; handed = d }

module _ (tape : List ℕ) (x : Run) (old : List ℕ) (at : ℕ) (now : Run) (next : ℕ) (new : List ℕ) (s : SoFar tape x old at now next new) (new' : List ℕ) (next' : ℕ) where
  module _ (h : next + line_most ≤ buffer_room) where
    -- one line more
    pub so_far_ahead : (r : Run) → NextLine tape now new next (Some r) new' next' → (now.at < r.at) × (r.at ≤ length tape)
    so_far_ahead r l = (line_piece tape now new next (Some r) new' next' s.handed (omega (arith, s.same, s.long)) l).ahead

    pub so_far_line : (r : Run) → NextLine tape now new next (Some r) new' next' → SoFar tape x old at r next' new'
    so_far_line r l =
        let p = line_piece tape now new next (Some r) new' next' s.handed (omega (arith, s.same, s.long)) l in
        record {
          long = s.long;
          same = p.same ∙ s.same;
          room = omega (arith, p.room, p.same, s.same, s.long);
          is = p.is ∙ s.is;
          on = omega (arith, s.on, p.ahead.0);
          begun = inr (omega (arith, s.on, p.ahead.0), p.ahead.1);
          handed = p.handed;
        }

    -- the last line
    pub so_far_stopped : NextLine tape now new next None new' next' → Piece tape x old at None new' next'
    so_far_stopped l =
        let p = line_piece tape now new next None new' next' s.handed (omega (arith, s.same, s.long)) l in
        record { room = p.room; same = p.same ∙ s.same; is = p.is ∙ s.is; ahead = tt; handed = tt }

module _ (tape : List ℕ) (x : Run) (old : List ℕ) (at : ℕ) (now : Run) (next : ℕ) (new : List ℕ) (s : SoFar tape x old at now next new) where
  -- no room is kept for one more
  pub so_far_full : at + line_most ≤ buffer_room → buffer_room < next + line_most → Piece tape x old at (Some now) new next
  so_far_full h l =
      record {
        room = omega (arith, s.room, s.same, s.long);
        same = s.same;
        is = s.is;
        ahead = ⊎_elim {C = (x.at < now.at) × (now.at ≤ length tape)} (λ (e : next ≡ at). absurd (omega arith)) (λ a. a) s.begun;
        handed = s.handed;
      }
