-- A relay, proved once for all elements, copies and results: `fn write(lines: &[Line], buf: &mut [u8]) -> Result { let t = copy(lines); put(t, buf) }`.
--     Result       the result's type, with what the walk asks of it
--     Relay        what is said of one: what `copy` and `put` ensure, and what `write` ensures
--     relays       `write`'s MIR meets its contract, from what `copy` and `put` ensure. The lines are passed on to `copy` and are not opened here; the buffer is given to `put` for good, at its own lifetime, share and name
-- No field of a line or of a copy is named. None of the three requires anything.
-- Assumes nothing.
use mathlib.Core.Path.{◌≡◌, refl}
use Prim.Native.Nat.{ℕ}
use mathlib.Core.List.{[], ◌∷◌, List}
use lib.Dec.{T as Holds}
use lib.ListN.{length}
use seplogic.Ra.Ura.{Ura}
use mir.Syntax.{Callee, Fn, Ty, named, erased, imm, mut, w8, ty_int, ty_ref, deref, field, place, copy, local, value_local, seq, assign, call, return, addr_of, aggregate}
use mir.Val.{Val, WT, has_ty}
use base.Logic.{SProp, ent, sep, emp, via, fst∗, snd∗, ex_e, id⊢}
use base.Fml.{GName, Lft, Share, Fml, ftrue, flft, fsep, fbor}
use prog.Wp.{WpFn, Tables}
use types.Logic.{Logic, sem}
use contract.Monad.{fact}
use types.Kit.{‵, raw, ◌⊛◌, ⋆, some, later, ◌$◌, ◌∵◌, !, qed, by, move, keep, drop, use1, use2, use3, split, split3, join, pick, fsplit, fjoin, feq_l, suffices, frame, await, done}
use types.Run.{look, init, forget, stop, hop, fld, from, load, addr, and_then, no_more, land, assigns, returns, enter, alloc1, alloc0, params1, pass1, pass0, free1, free0}
use types.SemTy.{Body, Arr}
use types.Hole.{Holey}
use types.Part.{agg, whole, sub, look_in}
use sound.WpLaws.{fm_of, WpFn-mono}
use denote.RattleType.{RattleType, owns}
use denote.Laws.{Is, shows}
use denote.Memory.{mem, pointee}
use denote.Builtin.{u8, SliceRefOf, SliceRefMutOf}
use denote.Ref.{Bor, MutBor}
use denote.Slice.{slice_ty, slice_val, MutSlice, ShrSlice, Room, finally, shr_slice_vals, mut_slice_vals, shr_slice_Tells, mut_slice_Tells}
use denote.Signature.{plain, shr_slice_of}
use denote.Steps.{peeks, heard, nothing}
use denote.Struct.Laws as LL
use denote.Triple.Statement.{Contract, Triple}
use denote.Triple.Call.{calls_at}
use denote.Triple.Entry.{on_entry}
use denote.Triple.Spec.{Meets, triple_of}
use denote.Triple.Clauses.{Clauses, Ended, Lasts, closing, ensured, lasts}
use denote.Triple.Walked.{says, Stays, stay_dropped, gave_slice, walk_of, AllGo, Goes-dropped, Goes-gave_slice, ends_at, walked, walk_Meets}
use denote.Exit.{yes}
use Rattle.board.proofs.Data.{Data, row, ty}

pub record Result : Type 2 where
  pub row : RattleType
  pub mir : Ty
  pub typed : {M : Type 1} {𝓤 : Ura M} (𝓛 : Logic 𝓤) → (r : row.Denot) (v : Val) → Is row r (v ∷ []) → Holds (has_ty mir v) × WT v

-- what is said of one relay. `copy` ensures `Copies` of the lines and its result; `put` ensures `Puts` of the copy, the buffer's bytes at entry, its result and the bytes in the end; `write` ensures `Says`
pub record Relay (L C : Data) (R : Result) : Type 1 where
  pub copying : Callee
  pub putting : Callee
  pub Copies : List L.type.D → C.type.D → Type 0
  pub Puts : C.type.D → List ℕ → R.row.Denot → List ℕ → Type 0
  pub Says : List L.type.D → List ℕ → R.row.Denot → List ℕ → Type 0
  pub says_so : (ys : List L.type.D) (c : C.type.D) (old : List ℕ) (r : R.row.Denot) (new : List ℕ) → Copies ys c → Puts c old r new → Says ys old r new

module _ {L C : Data} {R : Result} (d : Relay L C R) where
  -- `copy`'s contract
  abbrev copy_ended : Ended
  copy_ended = record { signature = record { lifetimes = 1; outlives = []; params = SliceRefOf (0 ∷ []) tt (plain (λ _. row L)) (λ _. tt) ∷ []; result = plain (λ _. row C) }; kept = (yes, tt) }

  abbrev copy_clauses : {M : Type 1} (𝓤 : Ura M) → Clauses 𝓤 copy_ended
  copy_clauses 𝓤 κs a = record { ghost = Unit {0}; requires = λ _. emp 𝓤; ensures = λ _ r e. fact 𝓤 (d.Copies a.0.now r) }

  abbrev pub Copy : {M : Type 1} {𝓤 : Ura M} (𝓛 : Logic 𝓤) → Contract 𝓤
  Copy {𝓤 = 𝓤} 𝓛 = triple_of 𝓛 copy_ended.signature (closing 𝓛 copy_ended (copy_clauses 𝓤))

  -- `put`'s contract
  abbrev put_ended : Ended
  put_ended = record { signature = record { lifetimes = 1; outlives = []; params = plain (λ _. row C) ∷ SliceRefMutOf (0 ∷ []) tt (plain (λ _. u8)) (λ _. tt) ∷ []; result = plain (λ _. R.row) }; kept = (yes, (yes, tt)) }

  abbrev put_clauses : {M : Type 1} (𝓤 : Ura M) → Clauses 𝓤 put_ended
  put_clauses 𝓤 κs a = record { ghost = Unit {0}; requires = λ _. emp 𝓤; ensures = λ _ r e. fact 𝓤 (d.Puts a.0 a.1.0.now r e.1.0.now) }

  abbrev pub Put : {M : Type 1} {𝓤 : Ura M} (𝓛 : Logic 𝓤) → Contract 𝓤
  Put {𝓤 = 𝓤} 𝓛 = triple_of 𝓛 put_ended.signature (closing 𝓛 put_ended (put_clauses 𝓤))

  -- `write`'s contract, and its MIR
  abbrev ended : Ended
  ended = record { signature = record { lifetimes = 2; outlives = []; params = SliceRefOf (0 ∷ []) tt (plain (λ _. row L)) (λ _. tt) ∷ SliceRefMutOf (1 ∷ []) tt (plain (λ _. u8)) (λ _. tt) ∷ []; result = plain (λ _. R.row) }; kept = (yes, (yes, tt)) }

  abbrev clauses : {M : Type 1} (𝓤 : Ura M) → Clauses 𝓤 ended
  clauses 𝓤 κs a = record { ghost = Unit {0}; requires = λ _. emp 𝓤; ensures = λ _ r e. fact 𝓤 (d.Says a.0.now a.1.0.now r e.1.0.now) }

  abbrev function : Fn
  function = record {
    lifetimes = 2;
    outlives = [];
    ty_params = [];
    givens = 0;
    params = 2;
    locals = local R.mir value_local ∷ local (slice_ty (ty_ref (named 0) imm (pointee (row L).written))) value_local ∷ local (slice_ty (ty_ref (named 1) mut (ty_int w8))) value_local ∷ local (ty C) value_local ∷ local (ty_ref erased mut (ty_int w8)) value_local ∷ local (slice_ty (ty_ref erased mut (ty_int w8))) value_local ∷ [];
    body = seq (call d.copying (copy (place 1 []) ∷ []) (place 3 []))
        (seq (assign (place 4 []) (addr_of (place 2 (field 0 ∷ deref (ty_int w8) ∷ []))))
        (seq (assign (place 5 []) (aggregate (copy (place 4 []) ∷ copy (place 2 (field 1 ∷ [])) ∷ [])))
        (seq (call d.putting (copy (place 3 []) ∷ copy (place 5 []) ∷ []) (place 0 [])) return)));
  }

  -- nothing is had of the lines at exit, and of the buffer what says its last bytes
  abbrev stayed : Stays ended.signature.params ended.kept
  stayed = (stay_dropped (shr_slice_of (0 ∷ []) tt (plain (λ _. row L))) yes, (gave_slice (1 ∷ []) tt (plain (λ _. u8)), tt))

  module _ {M : Type 1} {𝓤 : Ura M} (𝓛 : Logic 𝓤) where
    open 𝓛 use {H, A}

    module _ (κ κ' : Lft) (q q' : Share) (b o : ℕ) (ys : List L.type.D) (room : Room (row L) (length ys)) (b' o' : ℕ) (γ' : GName) (old : List ℕ) (room' : Room u8 (length old)) where
      abbrev lines : Bor (List L.type.D)
      lines = record { ref_ptr = (b, o); now = ys }

      abbrev buf : MutBor (List ℕ)
      buf = record { ref_ptr = (b', o'); ghost_name = γ'; now = old }

      -- their machine values
      abbrev v : Val
      v = slice_val (b, o) (length ys)

      abbrev v' : Val
      v' = slice_val (b', o') (length old)

      abbrev x : Bor (List L.type.D) × (MutBor (List ℕ) × Unit {0})
      x = (lines, (buf, tt))

      abbrev at : List Val × (List Val × Unit {0})
      at = (v ∷ [], (v' ∷ [], tt))

      abbrev Post : Val → SProp 𝓤
      Post = (walk_of 𝓛 ended stayed (clauses 𝓤)).post (((κ, (κ', tt)), (q, (q', tt)), tt, x, at), tt)

      -- `copy`: what its triple binds outside, what it asks, and what is known of its result
      abbrev to_copy : (Copy 𝓛).Ghost
      to_copy = (((κ, tt), (q, tt), tt, (lines, tt), (v ∷ [], tt)), tt)

      abbrev Lent : Fml
      Lent = (ShrSlice (named 0) κ (row L)).own_val lines (v ∷ [])

      goes_copy : ent 𝓤 (sep 𝓤 (A.lft κ q) (sem 𝓛 Lent)) ((Copy 𝓛).pre to_copy)
      goes_copy = qed 𝓛 (‵ (flft κ q) ∷ ‵ Lent ∷ []) ∵ nothing ! $ move ! (2 ∷ 0 ∷ []) $ fjoin ! $ nothing ! $ move ! (2 ∷ 0 ∷ []) $ join ! $ join ! $ frame ! $ done !

      copy_said : (c : C.type.D) → ent 𝓤 (ensured 𝓛 copy_ended (copy_clauses 𝓤) (κ, tt) (lines, tt) tt c) (fact 𝓤 (d.Copies ys c))
      copy_said c = ex_e 𝓤 _ (λ ws. snd∗ 𝓤 (sem 𝓛 (lasts copy_ended (κ, tt) (lines, tt) ws)) (fact 𝓤 (d.Copies ys c)))

      -- `put`, likewise; the buffer is asked for at its own lifetime, share and name
      abbrev to_put : C.type.D → Val → (Put 𝓛).Ghost
      to_put c u = (((κ', tt), (q', tt), tt, (c, (buf, tt)), (u ∷ [], (v' ∷ [], tt))), tt)

      abbrev Held : Fml
      Held = (MutSlice (named 1) κ' u8).own_val buf (v' ∷ [])

      goes_put : (c : C.type.D) (u : Val) → ent 𝓤 (⋆ 𝓛 (‵ (flft κ' q') ∷ ‵ ((row C).own_val c (u ∷ [])) ∷ ‵ Held ∷ [])) ((Put 𝓛).pre (to_put c u))
      goes_put c u =
          qed 𝓛 (‵ (flft κ' q') ∷ ‵ ((row C).own_val c (u ∷ [])) ∷ ‵ Held ∷ []) ∵ nothing ! $ move ! (3 ∷ 0 ∷ []) $ fjoin ! $ move ! (2 ∷ 0 ∷ []) $ fjoin ! $
          nothing ! $ move ! (2 ∷ 0 ∷ []) $ join ! $ join ! $ frame ! $ done !

      -- the buffer's borrow, which `put` hands back closed
      abbrev Closed : Fml
      Closed = fbor κ' (Body (Arr (Holey (mem u8)) (length old)) b' o' γ')

      exits : (r : R.row.Denot) (w : Val) (new : List ℕ) → d.Says ys old r new → length new ≡ length old
          → ent 𝓤 (⋆ 𝓛 (‵ (flft κ q) ∷ ‵ (flft κ' q') ∷ ‵ (fsep (finally u8 γ' new) Closed) ∷ ‵ (R.row.own_val r (w ∷ [])) ∷ [])) (Post w)
      exits r w new e l =
          qed 𝓛 (‵ (flft κ q) ∷ ‵ (flft κ' q') ∷ ‵ (fsep (finally u8 γ' new) Closed) ∷ ‵ (R.row.own_val r (w ∷ [])) ∷ []) ∵
          suffices ! _ (ends_at 𝓛 ended stayed (clauses 𝓤) (((κ, (κ', tt)), (q, (q', tt)), tt, x, at), tt) w r (tt, (new, tt)) (tt, (l, tt))) $ says ! e $
          nothing ! $ move ! (2 ∷ 0 ∷ []) $ join ! $ move ! (1 ∷ 0 ∷ []) $ join ! $ frame ! $
          nothing ! $ move ! (1 ∷ 0 ∷ []) $ fjoin ! $ nothing ! $ fjoin ! $ done !

      module _ (𝓣 : Tables 𝓤 H) (known-copy : Triple 𝓤 (𝓣.C d.copying) (Copy 𝓛)) (known-put : Triple 𝓤 (𝓣.C d.putting) (Put 𝓛)) where
        walk : ent 𝓤 (on_entry 𝓛 ended.signature (κ, (κ', tt)) (q, (q', tt)) x at) (WpFn 𝓤 H 𝓣.C 𝓣.Λ function (v ∷ v' ∷ []) Post)
        walk =
            qed 𝓛 ((‵ (flft κ q) ⊛ ‵ (flft κ' q') ⊛ ‵ ftrue) ∷ ‵ (owns (ShrSlice (named 0) κ (row L) ∷ MutSlice (named 1) κ' u8 ∷ []) x at) ∷ []) ∵ enter ! 𝓣.C 𝓣.Λ function (v ∷ v' ∷ []) _ $
            alloc1 ! (λ l₀. alloc1 ! (λ l₁. alloc1 ! (λ l₂. alloc1 ! (λ l₃. alloc1 ! (λ l₄. alloc1 ! (λ l₅. alloc0 ! $ params1 ! $
            pass1 ! (init ! 8 refl (tt, (tt, (record { fits = room.0 }, tt)))) $ pass1 ! (init ! 6 refl (tt, (tt, (record { fits = room'.0 }, tt)))) $ pass0 ! $
            move ! (13 ∷ []) $ fsplit ! $ move ! (1 ∷ []) $ fsplit ! $ move ! (15 ∷ []) $ split3 ! $
            -- [the lines' token; the buffer's token; true; the buffer; true; the lines; the locals, the last first]
            move ! (0 ∷ 5 ∷ []) $ use2 𝓛 (raw ((Copy 𝓛).pre to_copy)) goes_copy $
            calls_at ! (fm_of 𝓤 H 𝓛.laws 𝓣) (Copy 𝓛) known-copy to_copy (and_then ! (load ! (from ! (stop !)) (look ! 13 refl)) (no_more !)) (λ u.
            use1 𝓛 (later (some (λ (c : C.type.D). ((‵ (flft κ q) ⊛ ‵ ftrue) ⊛ ‵ ((row C).own_val c (u ∷ []))) ⊛ raw (ensured 𝓛 copy_ended (copy_clauses 𝓤) (κ, tt) (lines, tt) tt c)))) (id⊢ 𝓤 _) $ await ! tt $ pick ! (λ c.
            split ! $ move ! (1 ∷ []) $ use1 𝓛 (raw (fact 𝓤 (d.Copies ys c))) (copy_said c) $ heard ! (d.Copies ys c) (λ copies. split ! $ split ! $ move ! (2 ∷ []) $
            -- [the copy; the lines' token; true; the buffer's token; true; the buffer; true; the locals]
            peeks ! (row C) (Is (row C)) (shows 𝓛 (row C)) c (u ∷ []) (λ is.
            land ! (from ! (stop !)) (init ! 11 refl ((LL.lawful C.type C.laws 𝓛).typed c _ is).0) $
            assigns ! (addr ! (from ! (fld ! refl (hop ! (look_in ! 13 (sub ! 0 refl (whole !))) (stop !))))) (from ! (stop !)) (init ! 9 refl (tt, tt)) $
            assigns ! (agg ! (and_then ! (load ! (from ! (stop !)) (look ! 9 refl)) (and_then ! (load ! (from ! (fld ! refl (stop !))) (look_in ! 13 (sub ! 1 refl (whole !)))) (no_more !)))) (from ! (stop !)) (init ! 7 refl (tt, (tt, (record { fits = room'.0 }, tt)))) $
            move ! (3 ∷ 0 ∷ 5 ∷ []) $ use3 𝓛 (raw ((Put 𝓛).pre (to_put c u))) (goes_put c u) $
            calls_at ! (fm_of 𝓤 H 𝓛.laws 𝓣) (Put 𝓛) known-put (to_put c u) (and_then ! (load ! (from ! (stop !)) (look ! 9 refl)) (and_then ! (load ! (from ! (stop !)) (look ! 5 refl)) (no_more !))) (λ w.
            use1 𝓛 (later (some (λ (r : R.row.Denot). ((‵ (flft κ' q') ⊛ ‵ ftrue) ⊛ ‵ (R.row.own_val r (w ∷ []))) ⊛ raw (ensured 𝓛 put_ended (put_clauses 𝓤) (κ', tt) (c, (buf, tt)) tt r)))) (id⊢ 𝓤 _) $ await ! tt $ pick ! (λ r.
            -- what `put` ensures, at some last bytes
            split ! $ move ! (1 ∷ []) $ use1 𝓛 (some (λ (ws : Lasts put_ended (κ', tt) (c, (buf, tt))). ‵ (lasts put_ended (κ', tt) (c, (buf, tt)) ws) ⊛ raw (fact 𝓤 (d.Puts c old r ws.1.0)))) (id⊢ 𝓤 _) $ pick ! (λ ws.
            split ! $ move ! (1 ∷ []) $ heard ! (d.Puts c old r ws.1.0) (λ puts. fsplit ! $ drop ! $ fsplit ! $ fsplit ! $ fsplit ! $ move ! (1 ∷ []) $ feq_l ! (λ l. fjoin ! $
            -- [the last bytes and the borrow; true; the buffer's token and the result; the lines' token; true, thrice; the locals]
            move ! (2 ∷ []) $ split ! $ split ! $ move ! (2 ∷ []) $ peeks ! R.row (Is R.row) (shows 𝓛 R.row) r (w ∷ []) (λ is'.
            land ! (from ! (stop !)) (init ! 19 refl (R.typed 𝓛 r w is')) $
            -- [the result; the buffer's token; true; the last bytes and the borrow; true; the lines' token; true, thrice; the locals]
            returns ! (look ! 19 refl) $ forget ! 9 refl $ forget ! 11 refl $ forget ! 13 refl $ forget ! 15 refl $ forget ! 17 refl $ forget ! 19 refl $
            move ! (19 ∷ 20 ∷ []) $ free1 ! $ move ! (17 ∷ 18 ∷ []) $ free1 ! $ move ! (15 ∷ 16 ∷ []) $ free1 ! $ move ! (13 ∷ 14 ∷ []) $ free1 ! $ move ! (11 ∷ 12 ∷ []) $ free1 ! $ move ! (9 ∷ 10 ∷ []) $ free1 ! $ free0 ! $
            keep ! (5 ∷ 1 ∷ 3 ∷ 0 ∷ []) $ by ! (exits r w ws.1.0 (d.says_so ys c old r ws.1.0 copies puts) l)))))))))))))))))

    goes_all : AllGo 𝓛 2 ended.signature.params ended.kept stayed
    goes_all = (Goes-dropped 𝓛 2 (shr_slice_of (0 ∷ []) tt (plain (λ _. row L))) yes (λ κs y f. refl), (Goes-gave_slice 𝓛 2 1 tt (plain (λ _. u8)), tt))

    pub relays : (𝓣 : Tables 𝓤 H) → Triple 𝓤 (𝓣.C d.copying) (Copy 𝓛) → Triple 𝓤 (𝓣.C d.putting) (Put 𝓛) → Meets 𝓛 ended.signature (WpFn 𝓤 H 𝓣.C 𝓣.Λ function) (closing 𝓛 ended (clauses 𝓤))
    relays 𝓣 known-copy known-put =
        walk_Meets 𝓛 ended stayed goes_all (clauses 𝓤) (WpFn 𝓤 H 𝓣.C 𝓣.Λ function) (WpFn-mono 𝓤 H 𝓛.laws 𝓣 function)
        (walked 𝓛 ended stayed (clauses 𝓤) (WpFn 𝓤 H 𝓣.C 𝓣.Λ function)
        (λ κs. (shr_slice_vals, (mut_slice_vals, tt))) (λ κs. (shr_slice_Tells (named 0) κs.0 (row L), (mut_slice_Tells (named 1) κs.1.0 u8, tt)))
        (λ κs qs bounds a g are. via 𝓤 _ (fst∗ 𝓤 _ (emp 𝓤))
        (walk κs.0 κs.1.0 qs.0 qs.1.0 a.0.ref_ptr.0 a.0.ref_ptr.1 a.0.now are.0.0.1 a.1.0.ref_ptr.0 a.1.0.ref_ptr.1 a.1.0.ghost_name a.1.0.now are.1.0.0.1 𝓣 known-copy known-put)))
