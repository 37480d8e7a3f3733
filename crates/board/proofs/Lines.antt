-- A walk over lent lines, proved once for all of them:
--     `fn read(lines: &[L]) -> R { let mut copy = begin(lines.len()); let n = few(lines.len()); let mut i = 0; while i < n { copy = push(copy, lines[i]); i += 1; } finish(copy) }`
--     Reader       what is said of one: what the four functions ensure, and what `read` ensures
--     reads_lines  `read`'s MIR meets its contract, from what the four ensure. Each turn copies one line out of the slice and hands it to `push`. No more than `few` says are read
-- No field of a line, of the copy or of the result is named, so a new one changes nothing here.
-- Assumes nothing.
use mathlib.Core.Path.{◌≡◌, refl, sym, ap, ◌∙◌, subst}
use Prim.Native.Nat.{ℕ, ◌+◌, ◌-◌, ◌*◌, ◌<◌, ◌≤◌, ◌^◌}
use native.Mathlib.Omega.{arith}
use native.Mathlib.Numerals.{add-one}
use native.Mathlib.Nat.{lt_of_le_of_lt, mul-le-mul_right, le_antisymm}
use mathlib.Core.Bool.{Bool, true, false}
use mathlib.Core.List.{[], ◌∷◌, List, foldl, foldl-append}
use mathlib.Core.WellFounded.InvImage
use mathlib.Core.WellFounded.{WellFounded}
use lib.WfN.{lt-wf_rel}
use lib.ListN.{length, get_or, take}
use lib.Seq.{take-suc}
use lib.Dec.{T, ltb, lit<}
use borrow.Author.Tests.{ltb-true, ltb-false}
use seplogic.Ra.Ura.{Ura}
use base.Fraction.{full_share}
use mir.Syntax.{Callee, Ty, Fn, Body as Code, named, imm, w64, ty_int, ty_bool, ty_ptr, ty_ref, deref, field, place, copy, int, local, value_local, seq, assign, call, return, block, loop, cond, skip, exit, rv_opd, op2, lt, mul, add, offset, unsigned}
use mir.Val.{Val, vint, vptr, vbool}
use base.Logic.{SProp, ent, emp, via, fst∗, snd∗, ex_e, id⊢}
use base.Fml.{Lft, Share, Fml, ftrue, flft, fat, froom, fdies, fhide}
use prog.Wp.{Env, Out, Wp, WpFn, Tables, after_seq, after_block, after_turn, at_return}
use types.Logic.{Logic, sem}
use contract.Monad.{fact}
use types.Kit.{Item, Sq, runs, any_q, at_ret, ‵, raw, ◌⊛◌, ⋆, some, later, ◌$◌, ◌∵◌, !, qed, by, move, keep, drop, use0, use1, split, join, pick, rewrite, fsplit, fjoin, suffices, frame, await, done}
use types.Run.{look, look_raw, init, store, forget, stop, hop, fld, from, load, lit, of_opd, bin, and_then, no_more, land, assigns, assigns_last, first, blocks, stays, leaves_loop, loops, again, Below, exec, returns, enter, alloc1, alloc0, params1, pass1, pass0, free1, free0}
use types.Part.{whole, sub, look_in}
use sound.WpLaws.{fm_of, WpFn-mono}
use denote.RattleType.{RowLaws, owns}
use denote.Laws.{Is, shows}
use denote.Memory.{mem, pointee}
use denote.Plain.{UInt, uint_Tells, uint_Makes, uint_Lawful}
use denote.Index.{place_is, elem_out, elem_back, looks_slice, shuts_slice}
use denote.Builtin.{SliceRefOf}
use denote.Ref.{Bor}
use denote.Slice.{elements_shared, slice_ty, slice_val, ShrSlice, Room, shr_slice_vals, shr_slice_Tells, shr_slice_copy}
use denote.Signature.{plain}
use denote.Steps.{only, owned, peeks, heard, nothing}
use denote.Struct.Laws as LL
use denote.Struct.Struct.{Struct, Struct-row_laws}
use denote.Struct.Recorded.{Recorded-row_laws}
use denote.Struct.Declared.{shape}
use denote.Triple.Statement.{Contract, Triple}
use denote.Triple.Call.{calls_at}
use denote.Triple.Entry.{on_entry}
use denote.Triple.Spec.{Meets, triple_of}
use denote.Triple.Walked.{says, Stays, stay_none_slice, walk_of, Goes-none_slice, ends_at, walked, walk_Meets}
use denote.Triple.Clauses.{Clauses, Ended, closing, ensured, lasts}
use denote.Exit.{yes}
use Rattle.board.proofs.Data.{Data, row, ty, val, vals}

-- what is said of one reader. `begin` ensures `start` of the count, `few` ensures `reads` of it, `push` ensures `put`, `finish` ensures `Gives` of the copy and its result; `read` ensures `Says` of the lines and its result
pub record Reader (L B R : Data) : Type 1 where
  pub begin : Callee
  pub few : Callee
  pub push : Callee
  pub finish : Callee
  pub start : ℕ → B.type.D
  pub reads : ℕ → ℕ
  pub put : B.type.D → L.type.D → B.type.D
  pub Gives : B.type.D → R.type.D → Type 0
  pub Says : List L.type.D → R.type.D → Type 0
  pub reads_few : (n : ℕ) → reads n ≤ n
  pub says_so : (ys : List L.type.D) (r : R.type.D) → Gives (foldl put (start (length ys)) (take (reads (length ys)) ys)) r → Says ys r
  -- any line, and that a line's size is a number of the machine
  pub some_line : L.type.D
  pub small : T (ltb (mem (row L)).size (2 ^ 64))

-- a place within the slice is a number of the machine
within : (i n size : ℕ) → i < n → n * size < 2 ^ 63 → i * size < 2 ^ 64
within i n size l r = omega (arith, lt_of_le_of_lt (mul-le-mul_right {m = i} {n = n} size (omega (arith, l))) r)

module _ {L B R : Data} (c : Reader L B R) where
  abbrev size : ℕ
  size = (mem (row L)).size

  abbrev IsCopy : B.type.D → Type 0
  IsCopy t = Is (row B) t (val B t ∷ [])

  -- the contracts of the four
  abbrev begin_ended : Ended
  begin_ended = record { signature = record { lifetimes = 0; outlives = []; params = plain (λ _. UInt w64) ∷ []; result = plain (λ _. row B) }; kept = (yes, tt) }

  abbrev few_ended : Ended
  few_ended = record { signature = record { lifetimes = 0; outlives = []; params = plain (λ _. UInt w64) ∷ []; result = plain (λ _. UInt w64) }; kept = (yes, tt) }

  abbrev push_ended : Ended
  push_ended = record { signature = record { lifetimes = 0; outlives = []; params = plain (λ _. row B) ∷ plain (λ _. row L) ∷ []; result = plain (λ _. row B) }; kept = (yes, (yes, tt)) }

  abbrev finish_ended : Ended
  finish_ended = record { signature = record { lifetimes = 0; outlives = []; params = plain (λ _. row B) ∷ []; result = plain (λ _. row R) }; kept = (yes, tt) }

  module _ {M : Type 1} (𝓤 : Ura M) where
    abbrev begin_clauses : Clauses 𝓤 begin_ended
    begin_clauses κs a = record { ghost = Unit {0}; requires = λ _. emp 𝓤; ensures = λ _ r e. fact 𝓤 (r ≡ c.start a.0) }

    abbrev few_clauses : Clauses 𝓤 few_ended
    few_clauses κs a = record { ghost = Unit {0}; requires = λ _. emp 𝓤; ensures = λ _ r e. fact 𝓤 (r ≡ c.reads a.0) }

    abbrev push_clauses : Clauses 𝓤 push_ended
    push_clauses κs a = record { ghost = Unit {0}; requires = λ _. emp 𝓤; ensures = λ _ r e. fact 𝓤 (r ≡ c.put a.0 a.1.0) }

    abbrev finish_clauses : Clauses 𝓤 finish_ended
    finish_clauses κs a = record { ghost = Unit {0}; requires = λ _. emp 𝓤; ensures = λ _ r e. fact 𝓤 (c.Gives a.0 r) }

  abbrev pub Begin : {M : Type 1} {𝓤 : Ura M} (𝓛 : Logic 𝓤) → Contract 𝓤
  Begin {𝓤 = 𝓤} 𝓛 = triple_of 𝓛 begin_ended.signature (closing 𝓛 begin_ended (begin_clauses 𝓤))

  abbrev pub Few : {M : Type 1} {𝓤 : Ura M} (𝓛 : Logic 𝓤) → Contract 𝓤
  Few {𝓤 = 𝓤} 𝓛 = triple_of 𝓛 few_ended.signature (closing 𝓛 few_ended (few_clauses 𝓤))

  abbrev pub Push : {M : Type 1} {𝓤 : Ura M} (𝓛 : Logic 𝓤) → Contract 𝓤
  Push {𝓤 = 𝓤} 𝓛 = triple_of 𝓛 push_ended.signature (closing 𝓛 push_ended (push_clauses 𝓤))

  abbrev pub Finish : {M : Type 1} {𝓤 : Ura M} (𝓛 : Logic 𝓤) → Contract 𝓤
  Finish {𝓤 = 𝓤} 𝓛 = triple_of 𝓛 finish_ended.signature (closing 𝓛 finish_ended (finish_clauses 𝓤))

  -- `read`'s contract, and its MIR
  abbrev ended : Ended
  ended = record { signature = record { lifetimes = 1; outlives = []; params = SliceRefOf (0 ∷ []) tt (plain (λ _. row L)) (λ _. tt) ∷ []; result = plain (λ _. row R) }; kept = (yes, tt) }

  abbrev clauses : {M : Type 1} (𝓤 : Ura M) → Clauses 𝓤 ended
  clauses 𝓤 κs a = record { ghost = Unit {0}; requires = λ _. emp 𝓤; ensures = λ _ r e. fact 𝓤 (c.Says a.0.now r) }

  abbrev slice : Ty
  slice = slice_ty (ty_ref (named 0) imm (pointee (row L).written))

  abbrev turn_code : Code
  turn_code =
      seq (assign (place 6 []) (op2 (lt unsigned) (copy (place 4 [])) (copy (place 3 []))))
      (seq (cond (copy (place 6 [])) skip (exit 1))
      (seq (assign (place 7 []) (op2 (mul unsigned) (copy (place 4 [])) (int w64 size)))
      (seq (assign (place 8 []) (op2 offset (copy (place 1 (field 0 ∷ []))) (copy (place 7 []))))
      (seq (assign (place 9 []) (rv_opd (copy (place 8 (deref (ty L) ∷ [])))))
      (seq (call c.push (copy (place 2 []) ∷ copy (place 9 []) ∷ []) (place 2 []))
      (assign (place 4 []) (op2 (add unsigned) (copy (place 4 [])) (int w64 1))))))))

  abbrev finish_code : Code
  finish_code = seq (call c.finish (copy (place 2 []) ∷ []) (place 0 [])) return

  abbrev loop_code : Code
  loop_code = seq (block (loop turn_code)) finish_code

  abbrev function : Fn
  function = record {
    lifetimes = 1;
    outlives = [];
    ty_params = [];
    givens = 0;
    params = 1;
    locals = local (ty R) value_local ∷ local slice value_local ∷ local (ty B) value_local ∷ local (ty_int w64) value_local ∷ local (ty_int w64) value_local ∷ local (ty_int w64) value_local ∷ local ty_bool value_local ∷ local (ty_int w64) value_local ∷ local ty_ptr value_local ∷ local (ty L) value_local ∷ [];
    body = seq (assign (place 5 []) (rv_opd (copy (place 1 (field 1 ∷ [])))))
        (seq (call c.begin (copy (place 5 []) ∷ []) (place 2 []))
        (seq (assign (place 5 []) (rv_opd (copy (place 1 (field 1 ∷ [])))))
        (seq (call c.few (copy (place 5 []) ∷ []) (place 3 []))
        (seq (assign (place 4 []) (rv_opd (int w64 0))) loop_code))));
  }

  abbrev stayed : Stays ended.signature.params ended.kept
  stayed = (stay_none_slice (0 ∷ []) tt (plain (λ _. row L)) yes, tt)

  -- what a `&` to a line holds can be had twice
  shared : RowLaws (row L)
  shared = Recorded-row_laws (Struct (shape L.type)) L.type.D L.type.to L.type.to_one (Struct-row_laws (shape L.type) (LL.copy_row_laws L.type.parts L.copies))

  module _ {M : Type 1} {𝓤 : Ura M} (𝓛 : Logic 𝓤) where
    open 𝓛 use {H}

    begin_said : (n : ℕ) (r : B.type.D) → ent 𝓤 (ensured 𝓛 begin_ended (begin_clauses 𝓤) tt (n, tt) tt r) (fact 𝓤 (r ≡ c.start n))
    begin_said n r = ex_e 𝓤 _ (λ ws. snd∗ 𝓤 (sem 𝓛 (lasts begin_ended tt (n, tt) ws)) (fact 𝓤 (r ≡ c.start n)))

    few_said : (n r : ℕ) → ent 𝓤 (ensured 𝓛 few_ended (few_clauses 𝓤) tt (n, tt) tt r) (fact 𝓤 (r ≡ c.reads n))
    few_said n r = ex_e 𝓤 _ (λ ws. snd∗ 𝓤 (sem 𝓛 (lasts few_ended tt (n, tt) ws)) (fact 𝓤 (r ≡ c.reads n)))

    push_said : (t : B.type.D) (l : L.type.D) (r : B.type.D) → ent 𝓤 (ensured 𝓛 push_ended (push_clauses 𝓤) tt (t, (l, tt)) tt r) (fact 𝓤 (r ≡ c.put t l))
    push_said t l r = ex_e 𝓤 _ (λ ws. snd∗ 𝓤 (sem 𝓛 (lasts push_ended tt (t, (l, tt)) ws)) (fact 𝓤 (r ≡ c.put t l)))

    finish_said : (t : B.type.D) (r : R.type.D) → ent 𝓤 (ensured 𝓛 finish_ended (finish_clauses 𝓤) tt (t, tt) tt r) (fact 𝓤 (c.Gives t r))
    finish_said t r = ex_e 𝓤 _ (λ ws. snd∗ 𝓤 (sem 𝓛 (lasts finish_ended tt (t, tt) ws)) (fact 𝓤 (c.Gives t r)))

    -- the calls: what each is passed, and what it asks, which is had for nothing
    abbrev to_begin : ℕ → (Begin 𝓛).Ghost
    to_begin n = ((tt, tt, tt, (n, tt), (vint w64 n ∷ [], tt)), tt)

    goes_begin : (n : ℕ) → n < 2 ^ 64 → ent 𝓤 (emp 𝓤) ((Begin 𝓛).pre (to_begin n))
    goes_begin n fits =
        qed 𝓛 [] ∵ nothing ! $ nothing ! $ owned ! (UInt w64) (Is (UInt w64)) (uint_Makes 𝓛 w64) n _ (refl, fits) $ fjoin ! $ move ! (1 ∷ 0 ∷ []) $ join ! $ nothing ! $ move ! (1 ∷ 0 ∷ []) $ done !

    abbrev to_few : ℕ → (Few 𝓛).Ghost
    to_few n = ((tt, tt, tt, (n, tt), (vint w64 n ∷ [], tt)), tt)

    goes_few : (n : ℕ) → n < 2 ^ 64 → ent 𝓤 (emp 𝓤) ((Few 𝓛).pre (to_few n))
    goes_few n fits =
        qed 𝓛 [] ∵ nothing ! $ nothing ! $ owned ! (UInt w64) (Is (UInt w64)) (uint_Makes 𝓛 w64) n _ (refl, fits) $ fjoin ! $ move ! (1 ∷ 0 ∷ []) $ join ! $ nothing ! $ move ! (1 ∷ 0 ∷ []) $ done !

    abbrev to_push : B.type.D → L.type.D → (Push 𝓛).Ghost
    to_push t l = ((tt, tt, tt, (t, (l, tt)), (val B t ∷ [], (vals L l, tt))), tt)

    goes_push : (t : B.type.D) (l : L.type.D) → IsCopy t → Is (row L) l (vals L l) → ent 𝓤 (emp 𝓤) ((Push 𝓛).pre (to_push t l))
    goes_push t l is-t is-l =
        qed 𝓛 [] ∵ nothing ! $ nothing ! $ owned ! (row L) (Is (row L)) (LL.makes L.type L.plain 𝓛) l _ is-l $ fjoin ! $
        owned ! (row B) (Is (row B)) (LL.makes B.type B.plain 𝓛) t _ is-t $ fjoin ! $ move ! (1 ∷ 0 ∷ []) $ join ! $ nothing ! $ move ! (1 ∷ 0 ∷ []) $ done !

    abbrev to_finish : B.type.D → (Finish 𝓛).Ghost
    to_finish t = ((tt, tt, tt, (t, tt), (val B t ∷ [], tt)), tt)

    goes_finish : (t : B.type.D) → IsCopy t → ent 𝓤 (emp 𝓤) ((Finish 𝓛).pre (to_finish t))
    goes_finish t is-t =
        qed 𝓛 [] ∵ nothing ! $ nothing ! $ owned ! (row B) (Is (row B)) (LL.makes B.type B.plain 𝓛) t _ is-t $ fjoin ! $ move ! (1 ∷ 0 ∷ []) $ join ! $ nothing ! $ move ! (1 ∷ 0 ∷ []) $ done !

    module _ (κ : Lft) (q : Share) (b o : ℕ) (ys : List L.type.D) (room : Room (row L) (length ys)) where
      abbrev x : Bor (List L.type.D)
      x = record { ref_ptr = (b, o); now = ys }

      abbrev v : Val
      v = slice_val (b, o) (length ys)

      abbrev Own : Fml
      Own = (ShrSlice (named 0) κ (row L)).own_val x (v ∷ [])

      -- what a `&` to each of the elements holds
      abbrev Lent : Fml
      Lent = fhide (elements_shared (row L) ys b o κ)

      abbrev Post : Val → SProp 𝓤
      Post = (walk_of 𝓛 ended stayed (clauses 𝓤)).post (((κ, tt), (q, tt), tt, (x, tt), (v ∷ [], tt)), tt)

      exits : (r : R.type.D) (u : Val) → c.Says ys r → ent 𝓤 (⋆ 𝓛 (‵ ((row R).own_val r (u ∷ [])) ∷ ‵ (flft κ q) ∷ ‵ Own ∷ [])) (Post u)
      exits r u e =
          qed 𝓛 (‵ ((row R).own_val r (u ∷ [])) ∷ ‵ (flft κ q) ∷ ‵ Own ∷ []) ∵
          suffices ! _ (ends_at 𝓛 ended stayed (clauses 𝓤) (((κ, tt), (q, tt), tt, (x, tt), (v ∷ [], tt)), tt) u r (tt, tt) (tt, tt)) $ says ! e $
          nothing ! $ move ! (2 ∷ 0 ∷ []) $ join ! $ frame ! $ nothing ! $ move ! (2 ∷ 0 ∷ []) $ fjoin ! $ frame ! $ done !

      -- how many are read, and the copy of the first i
      abbrev n : ℕ
      n = c.reads (length ys)

      abbrev copied : ℕ → B.type.D
      copied i = foldl c.put (c.start (length ys)) (take i ys)

      -- where a turn begins: at line i, with the copy t of those before it
      record At : Type 0 where
        i : ℕ
        t : B.type.D
        le : i ≤ n
        so : t ≡ copied i
        is : IsCopy t

      onward : (a : At) → a.i < length ys → c.put a.t (get_or ys a.i c.some_line) ≡ copied (a.i + 1)
      onward a l =
          ap (λ (t : B.type.D). c.put t (get_or ys a.i c.some_line)) a.so ∙ sym (foldl-append c.put (c.start (length ys)) (take a.i ys) (get_or ys a.i c.some_line ∷ []))
          ∙ rw add-one (ap (foldl c.put (c.start (length ys))) (sym (take-suc ys a.i c.some_line l)))

      module _ (𝓣 : Tables 𝓤 H) (known-begin : Triple 𝓤 (𝓣.C c.begin) (Begin 𝓛)) (known-few : Triple 𝓤 (𝓣.C c.few) (Few 𝓛)) (known-push : Triple 𝓤 (𝓣.C c.push) (Push 𝓛)) (known-finish : Triple 𝓤 (𝓣.C c.finish) (Finish 𝓛)) where
        module _ (l₀ l₁ l₂ l₃ l₄ l₅ l₆ l₇ l₈ l₉ : ℕ) where
          abbrev E : Env 𝓤 H
          E = (ty R, l₀) ∷ (slice, l₁) ∷ (ty B, l₂) ∷ (ty_int w64, l₃) ∷ (ty_int w64, l₄) ∷ (ty_int w64, l₅) ∷ (ty_bool, l₆) ∷ (ty_int w64, l₇) ∷ (ty_ptr, l₈) ∷ (ty L, l₉) ∷ []

          -- what is had where a turn begins: the token, the borrow, the locals, the last first, and what the slice owns
          abbrev I : At → List (Item 𝓤)
          I a = ‵ (flft κ q) ∷ ‵ Lent ∷ ‵ (froom (ty L) l₉ 0) ∷ ‵ (fdies (ty L) l₉) ∷ ‵ (froom ty_ptr l₈ 0) ∷ ‵ (fdies ty_ptr l₈) ∷ ‵ (froom (ty_int w64) l₇ 0) ∷ ‵ (fdies (ty_int w64) l₇) ∷ ‵ (froom ty_bool l₆ 0) ∷ ‵ (fdies ty_bool l₆)
              ∷ ‵ (froom (ty_int w64) l₅ 0) ∷ ‵ (fdies (ty_int w64) l₅) ∷ ‵ (fat full_share (ty_int w64) l₄ 0 (vint w64 a.i)) ∷ ‵ (fdies (ty_int w64) l₄) ∷ ‵ (fat full_share (ty_int w64) l₃ 0 (vint w64 n)) ∷ ‵ (fdies (ty_int w64) l₃)
              ∷ ‵ (fat full_share (ty B) l₂ 0 (val B a.t)) ∷ ‵ (fdies (ty B) l₂) ∷ ‵ (fat full_share slice l₁ 0 v) ∷ ‵ (fdies slice l₁) ∷ ‵ (froom (ty R) l₀ 0) ∷ ‵ (fdies (ty R) l₀) ∷ ‵ Own ∷ []

          abbrev Less : At → At → Type 0
          Less a' a = n - a'.i < n - a.i

          -- where the loop is left, the rest of the body runs
          abbrev Left : Out → SProp 𝓤
          Left = after_block 𝓤 H (after_seq 𝓤 H (Wp 𝓤 H 𝓣.C 𝓣.Λ E finish_code (at_return 𝓤 H E Post)) (at_return 𝓤 H E Post))

          turn : (a : At) (t : Bool) → ltb a.i n ≡ t → Sq 𝓛 (I a) (runs 𝓣.C 𝓣.Λ E turn_code (any_q (after_turn 𝓤 H (Below 𝓛 Less I a) Left)))
          unfolding after_turn
          turn a true e =
              assigns ! (bin ! (load ! (from ! (stop !)) (look ! 12 refl)) (load ! (from ! (stop !)) (look ! 14 refl)) tt) (from ! (stop !)) (init ! 8 refl (tt, tt)) $
              rewrite ! 8 (λ (t : Bool). ‵ (fat full_share ty_bool l₆ 0 (vbool t))) e refl $ stays ! (load ! (from ! (stop !)) (look ! 8 refl)) $
              -- the place of the line, and the line
              assigns ! (bin ! (load ! (from ! (stop !)) (look ! 12 refl)) (lit ! c.small) (record { fits = place_fits })) (from ! (stop !)) (init ! 6 refl (tt, record { fits = place_fits })) $
              assigns ! (bin ! (load ! (from ! (fld ! refl (stop !))) (look_in ! 18 (sub ! 0 refl (whole !)))) (load ! (from ! (stop !)) (look ! 6 refl)) tt) (from ! (stop !)) (init ! 4 refl (tt, tt)) $
              rewrite ! 4 (λ (p : ℕ). ‵ (fat full_share ty_ptr l₈ 0 (vptr b p))) (sym (place_is size o a.i)) refl $
              move ! (1 ∷ 0 ∷ []) $ looks_slice ! tt (row L) (LL.copied L.type L.copies 𝓛) ys b o (λ q'.
              elem_out ! (row L) (Is (row L)) (shows 𝓛 (row L)) (vals L) (LL.tells L.type L.laws) q' ys a.i c.some_line b o small (λ g.
              -- [the line; what it owns; the others; what shuts; the borrow; _9; …]
              assigns ! (of_opd ! (load ! (from ! (hop ! (look ! 7 refl) (stop !))) (look_raw ! 0 refl))) (from ! (stop !)) (init ! 5 refl ((LL.lawful L.type L.laws 𝓛).typed line _ g).0) $
              elem_back ! (row L) q' ys a.i c.some_line (vals L line) b o small $ shuts_slice ! tt (row L) q' ys b o $
              -- `push`
              use0 𝓛 (raw ((Push 𝓛).pre (to_push a.t line))) (goes_push a.t line a.is g) $
              calls_at ! (fm_of 𝓤 H 𝓛.laws 𝓣) (Push 𝓛) known-push (to_push a.t line) (and_then ! (load ! (from ! (stop !)) (look ! 17 refl)) (and_then ! (load ! (from ! (stop !)) (look ! 3 refl)) (no_more !))) (λ u.
              use1 𝓛 (later (some (λ (r : B.type.D). (‵ ftrue ⊛ ‵ ((row B).own_val r (u ∷ []))) ⊛ raw (ensured 𝓛 push_ended (push_clauses 𝓤) tt (a.t, (line, tt)) tt r)))) (id⊢ 𝓤 _) $ await ! tt $ pick ! (λ r.
              split ! $ move ! (1 ∷ []) $ use1 𝓛 (raw (fact 𝓤 (r ≡ c.put a.t line))) (push_said a.t line r) $ heard ! (r ≡ c.put a.t line) (λ e'. split ! $ drop ! $
              peeks ! (row B) (Is (row B)) (shows 𝓛 (row B)) r (u ∷ []) (λ is. land ! (from ! (stop !)) (store ! 17 refl ((LL.lawful B.type B.laws 𝓛).typed r _ is).0) $
              rewrite ! 17 (λ (us : List Val). ‵ (fat full_share (ty B) l₂ 0 (only us))) (LL.tells B.type B.laws r (u ∷ []) is) refl $ drop ! $
              -- the next line
              assigns_last ! (bin ! (load ! (from ! (stop !)) (look ! 12 refl)) (lit ! tt) (record { fits = next_fits })) (from ! (stop !)) (store ! 12 refl (tt, record { fits = next_fits })) $
              forget ! 2 refl $ forget ! 4 refl $ forget ! 6 refl $ forget ! 8 refl $
              again ! Less I a (record { i = a.i + 1; t = r; le = less_next; so = e' ∙ onward a small; is = subst (Is (row B) r) (LL.tells B.type B.laws r (u ∷ []) is) is }) less))))))
            where
              below : a.i < n
              below = ltb-true a.i n e

              small : a.i < length ys
              small = omega (arith, below, c.reads_few (length ys))

              line : L.type.D
              line = get_or ys a.i c.some_line

              place_fits : a.i * size < 2 ^ 64
              place_fits = within a.i (length ys) size small room.1

              next_fits : a.i + 1 < 2 ^ 64
              next_fits = omega (arith, small, room.0)

              less_next : a.i + 1 ≤ n
              less_next = omega (arith, below)

              less : n - (a.i + 1) < n - a.i
              less = omega (arith, below)
          turn a false e =
              assigns ! (bin ! (load ! (from ! (stop !)) (look ! 12 refl)) (load ! (from ! (stop !)) (look ! 14 refl)) tt) (from ! (stop !)) (init ! 8 refl (tt, tt)) $
              rewrite ! 8 (λ (t : Bool). ‵ (fat full_share ty_bool l₆ 0 (vbool t))) e refl $ leaves_loop ! (load ! (from ! (stop !)) (look ! 8 refl)) $ exec ! 𝓣.C 𝓣.Λ E finish_code (at_ret E Post) $
              -- `finish`
              use0 𝓛 (raw ((Finish 𝓛).pre (to_finish a.t))) (goes_finish a.t a.is) $
              calls_at ! (fm_of 𝓤 H 𝓛.laws 𝓣) (Finish 𝓛) known-finish (to_finish a.t) (and_then ! (load ! (from ! (stop !)) (look ! 17 refl)) (no_more !)) (λ u.
              use1 𝓛 (later (some (λ (r : R.type.D). (‵ ftrue ⊛ ‵ ((row R).own_val r (u ∷ []))) ⊛ raw (ensured 𝓛 finish_ended (finish_clauses 𝓤) tt (a.t, tt) tt r)))) (id⊢ 𝓤 _) $ await ! tt $ pick ! (λ r.
              split ! $ move ! (1 ∷ []) $ use1 𝓛 (raw (fact 𝓤 (c.Gives a.t r))) (finish_said a.t r) $ heard ! (c.Gives a.t r) (λ e'. split ! $ drop ! $
              peeks ! (row R) (Is (row R)) (shows 𝓛 (row R)) r (u ∷ []) (λ is. land ! (from ! (stop !)) (init ! 21 refl ((LL.lawful R.type R.laws 𝓛).typed r _ is).0) $
              returns ! (look ! 21 refl) $ forget ! 9 refl $ forget ! 13 refl $ forget ! 15 refl $ forget ! 17 refl $ forget ! 19 refl $ forget ! 21 refl $
              move ! (21 ∷ 22 ∷ []) $ free1 ! $ move ! (19 ∷ 20 ∷ []) $ free1 ! $ move ! (17 ∷ 18 ∷ []) $ free1 ! $ move ! (15 ∷ 16 ∷ []) $ free1 ! $ move ! (13 ∷ 14 ∷ []) $ free1 ! $ move ! (11 ∷ 12 ∷ []) $ free1 ! $ move ! (9 ∷ 10 ∷ []) $ free1 ! $
              move ! (7 ∷ 8 ∷ []) $ free1 ! $ move ! (5 ∷ 6 ∷ []) $ free1 ! $ move ! (3 ∷ 4 ∷ []) $ free1 ! $ free0 ! $
              keep ! (0 ∷ 1 ∷ 3 ∷ []) $ by ! (exits r u (c.says_so ys r (subst (λ (t : B.type.D). c.Gives t r) at_end_lem e')))))))
            where
              at_end_lem : a.t ≡ copied n
              at_end_lem = a.so ∙ ap copied (le_antisymm a.le (ltb-false a.i n e))

          falls : WellFounded Less
          falls = InvImage.wf (λ (a : At). n - a.i) lt-wf_rel.wf

          around : (a : At) → Sq 𝓛 (I a) (runs 𝓣.C 𝓣.Λ E loop_code (at_ret E Post))
          around a = first ! $ blocks ! $ loops ! 𝓣 Less falls I (λ a. turn a (ltb a.i n) refl) a

        walk : ent 𝓤 (on_entry 𝓛 ended.signature (κ, tt) (q, tt) (x, tt) (v ∷ [], tt)) (WpFn 𝓤 H 𝓣.C 𝓣.Λ function (v ∷ []) Post)
        walk =
            qed 𝓛 ((‵ (flft κ q) ⊛ ‵ ftrue) ∷ ‵ (owns (ShrSlice (named 0) κ (row L) ∷ []) (x, tt) (v ∷ [], tt)) ∷ []) ∵ enter ! 𝓣.C 𝓣.Λ function (v ∷ []) _ $
            alloc1 ! (λ l₀. alloc1 ! (λ l₁. alloc1 ! (λ l₂. alloc1 ! (λ l₃. alloc1 ! (λ l₄. alloc1 ! (λ l₅. alloc1 ! (λ l₆. alloc1 ! (λ l₇. alloc1 ! (λ l₈. alloc1 ! (λ l₉. alloc0 ! $ params1 ! $ pass1 ! (init ! 16 refl (tt, (tt, (record { fits = room.0 }, tt)))) $ pass0 ! $
            -- `begin`
            assigns ! (of_opd ! (load ! (from ! (fld ! refl (stop !))) (look_in ! 16 (sub ! 1 refl (whole !))))) (from ! (stop !)) (init ! 8 refl (tt, record { fits = room.0 })) $
            use0 𝓛 (raw ((Begin 𝓛).pre (to_begin (length ys)))) (goes_begin (length ys) room.0) $
            calls_at ! (fm_of 𝓤 H 𝓛.laws 𝓣) (Begin 𝓛) known-begin (to_begin (length ys)) (and_then ! (load ! (from ! (stop !)) (look ! 9 refl)) (no_more !)) (λ u.
            use1 𝓛 (later (some (λ (r : B.type.D). (‵ ftrue ⊛ ‵ ((row B).own_val r (u ∷ []))) ⊛ raw (ensured 𝓛 begin_ended (begin_clauses 𝓤) tt (length ys, tt) tt r)))) (id⊢ 𝓤 _) $ await ! tt $ pick ! (λ r.
            split ! $ move ! (1 ∷ []) $ use1 𝓛 (raw (fact 𝓤 (r ≡ c.start (length ys)))) (begin_said (length ys) r) $ heard ! (r ≡ c.start (length ys)) (λ e. split ! $ drop ! $
            peeks ! (row B) (Is (row B)) (shows 𝓛 (row B)) r (u ∷ []) (λ is. land ! (from ! (stop !)) (init ! 15 refl ((LL.lawful B.type B.laws 𝓛).typed r _ is).0) $
            rewrite ! 15 (λ (us : List Val). ‵ (fat full_share (ty B) l₂ 0 (only us))) (LL.tells B.type B.laws r (u ∷ []) is) refl $ drop ! $
            -- `few`
            assigns ! (of_opd ! (load ! (from ! (fld ! refl (stop !))) (look_in ! 16 (sub ! 1 refl (whole !))))) (from ! (stop !)) (store ! 8 refl (tt, record { fits = room.0 })) $
            use0 𝓛 (raw ((Few 𝓛).pre (to_few (length ys)))) (goes_few (length ys) room.0) $
            calls_at ! (fm_of 𝓤 H 𝓛.laws 𝓣) (Few 𝓛) known-few (to_few (length ys)) (and_then ! (load ! (from ! (stop !)) (look ! 9 refl)) (no_more !)) (λ u'.
            use1 𝓛 (later (some (λ (m : ℕ). (‵ ftrue ⊛ ‵ ((UInt w64).own_val m (u' ∷ []))) ⊛ raw (ensured 𝓛 few_ended (few_clauses 𝓤) tt (length ys, tt) tt m)))) (id⊢ 𝓤 _) $ await ! tt $ pick ! (λ m.
            split ! $ move ! (1 ∷ []) $ use1 𝓛 (raw (fact 𝓤 (m ≡ n))) (few_said (length ys) m) $ heard ! (m ≡ n) (λ m-is. split ! $ drop ! $
            peeks ! (UInt w64) (Is (UInt w64)) (shows 𝓛 (UInt w64)) m (u' ∷ []) (λ is'. land ! (from ! (stop !)) (init ! 13 refl ((uint_Lawful 𝓛 w64).typed m _ is').0) $
            rewrite ! 13 (λ (us : List Val). ‵ (fat full_share (ty_int w64) l₃ 0 (only us))) (uint_Tells w64 m (u' ∷ []) is') refl $ drop ! $
            rewrite ! 12 (λ (k : ℕ). ‵ (fat full_share (ty_int w64) l₃ 0 (vint w64 k))) m-is refl $
            assigns ! (of_opd ! (lit ! tt)) (from ! (stop !)) (init ! 10 refl (tt, record { fits = lit< tt })) $ forget ! 8 refl $
            -- the slice is Copy: one copy of what it owns is kept for the exit, and of the other the borrow is kept
            move ! (21 ∷ []) $ fsplit ! $ use1 𝓛 (‵ Own ⊛ ‵ Own) ((shr_slice_copy 𝓛 (named 0) κ (row L) shared).twice x (v ∷ [])) $ split ! $ fsplit ! $ drop ! $
            -- [the borrow; what the slice owns; true; the locals; the token]
            move ! (23 ∷ []) $ split ! $ keep ! (0 ∷ 2 ∷ 5 ∷ 6 ∷ 7 ∷ 8 ∷ 9 ∷ 10 ∷ 11 ∷ 12 ∷ 13 ∷ 14 ∷ 15 ∷ 16 ∷ 17 ∷ 18 ∷ 19 ∷ 20 ∷ 21 ∷ 22 ∷ 23 ∷ 24 ∷ 3 ∷ []) $
            around l₀ l₁ l₂ l₃ l₄ l₅ l₆ l₇ l₈ l₉ (record { i = 0; t = r; le = omega arith; so = e; is = subst (Is (row B) r) (LL.tells B.type B.laws r (u ∷ []) is) is })))))))))))))))))))

    pub reads_lines : (𝓣 : Tables 𝓤 H) → Triple 𝓤 (𝓣.C c.begin) (Begin 𝓛) → Triple 𝓤 (𝓣.C c.few) (Few 𝓛) → Triple 𝓤 (𝓣.C c.push) (Push 𝓛) → Triple 𝓤 (𝓣.C c.finish) (Finish 𝓛)
        → Meets 𝓛 ended.signature (WpFn 𝓤 H 𝓣.C 𝓣.Λ function) (closing 𝓛 ended (clauses 𝓤))
    reads_lines 𝓣 known-begin known-few known-push known-finish =
        walk_Meets 𝓛 ended stayed (Goes-none_slice 𝓛 1 (0 ∷ []) tt (plain (λ _. row L)) yes, tt) (clauses 𝓤) (WpFn 𝓤 H 𝓣.C 𝓣.Λ function) (WpFn-mono 𝓤 H 𝓛.laws 𝓣 function)
        (walked 𝓛 ended stayed (clauses 𝓤) (WpFn 𝓤 H 𝓣.C 𝓣.Λ function) (λ κs. (shr_slice_vals, tt)) (λ κs. (shr_slice_Tells (named 0) κs.0 (row L), tt))
        (λ κs qs bounds a g are. via 𝓤 _ (fst∗ 𝓤 _ (emp 𝓤)) (walk κs.0 qs.0 a.0.ref_ptr.0 a.0.ref_ptr.1 a.0.now are.0.0.1 𝓣 known-begin known-few known-push known-finish)))
