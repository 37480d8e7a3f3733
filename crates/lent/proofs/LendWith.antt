-- A call that lends the first elements of an array beside a buffer, proved once: `fn call(lines: [Line; N], n: usize, buf: &mut [u8]) -> Written { board(&lines[..n], buf) }`, where n is at most N.
--     Call         what is said of the call: what the board's call ensures of the elements that it was lent, of the buffer's bytes at entry and in the end, and of its result
--     lend_with    `call`'s MIR meets its contract, from what the board's call ensures. The first n elements are lent for a lifetime that is made here, as in `LendPart.antt`; the buffer is given on for good, at its own lifetime, share and name
-- No field of an element is named, so a new one changes nothing here.
-- Assumes nothing.
use mathlib.Core.Path.{◌≡◌, refl, sym, subst}
use Prim.Native.Nat.{ℕ, ◌≤◌, ◌<◌, ◌^◌}
use mathlib.Core.List.{[], ◌∷◌, List}
use lib.ListN.{length, take, drop as behind}
use seplogic.Ra.Ura.{Ura}
use base.Fraction.{full_share}
use mir.Syntax.{Callee, Fn, named, erased, imm, mut, w8, w64, ty_int, ty_ref, ty_array, deref, field, place, copy, local, value_local, memory_slot, seq, assign, call, return, rv_opd, addr_of, aggregate}
use mir.Val.{Val, vint}
use base.Logic.{SProp, ent, emp, id⊢}
use base.Fml.{GName, Lft, Share, Fml, ftrue, flft, flent, fat, froom, fsep, fbor}
use prog.Wp.{WpFn, Tables}
use types.Logic.{Logic}
use contract.Monad.{fact}
use types.Kit.{‵, raw, ◌⊛◌, ⋆, some, later, ◌$◌, ◌∵◌, !, qed, by, move, keep, drop, use1, use3, split, split3, join, pick, rewrite, fsplit, fjoin, feq_l, suffices, frame, await, done}
use types.Tokens.{lft_new, lft_end}
use types.Run.{look, init, forget, stop, hop, fld, from, load, addr, of_opd, and_then, no_more, land, assigns, returns, enter, alloc1, alloc0, params1, pass1, pass0, free1, free0}
use types.SemTy.{Body, Arr}
use types.Hole.{Holey}
use types.Part.{agg, whole, sub, look_in}
use sound.WpLaws.{fm_of, WpFn-mono}
use denote.RattleType.{owns}
use denote.Laws.{Is, shows}
use denote.Memory.{mem, pointee}
use denote.Plain.{uint_vals, uint_Tells}
use denote.Builtin.{ArrayOf, SliceRefOf, SliceRefMutOf, u8, usize}
use denote.Array.{array_vals, Array-Tells, Array-Lawful}
use denote.Ref.{Bor, MutBor}
use denote.Slice.{Room, MutSlice, slice_ty, slice_val, finally, mut_slice_vals, mut_slice_Tells}
use denote.Signature.{plain}
use denote.Steps.{peeks, heard, nothing}
use denote.Struct.Laws as LL
use denote.Triple.Statement.{Contract, Triple}
use denote.Triple.Call.{calls_at}
use denote.Triple.Entry.{on_entry}
use denote.Triple.Spec.{Meets, triple_of}
use denote.Triple.Clauses.{Clauses, Ended, Lasts, closing, ensured, lasts}
use denote.Triple.Walked.{says, needs, Stays, stay_dropped, gave_slice, walk_of, AllGo, Goes-dropped, Goes-gave_slice, ends_at, walked, walk_Meets}
use denote.Exit.{yes}
use lib.Seq.{length-take-le}
use borrow.Rule.Array.Share.{Room-take}
use Rattle.board.proofs.Data.{Data, row, vals}
use Rattle.board.proofs.Relay.{Result}
use Rattle.lent.proofs.Slicing.{all, all_ty, all_val, part_lent, lent_of, rest_of, lends_part, part_back}
use Rattle.lent.proofs.LendPart.{Lines}

-- what is said of the call. The board's call ensures `Says` of the elements that it was lent, the buffer's bytes at entry, its result and the bytes in the end; `call` requires that n is at most N, and ensures `Says` of the first n elements and the rest
pub record Call (L : Data) (R : Result) : Type 1 where
  pub key : Callee
  pub Says : List L.type.D → List ℕ → R.row.Denot → List ℕ → Type 0

module _ {L : Data} {R : Result} {N : ℕ} (m : Lines L N) (c : Call L R) where
  -- the contract of the board's call
  abbrev board_ended : Ended
  board_ended = record { signature = record { lifetimes = 2; outlives = []; params = SliceRefOf (0 ∷ []) tt (plain (λ _. row L)) (λ _. tt) ∷ SliceRefMutOf (1 ∷ []) tt (plain (λ _. u8)) (λ _. tt) ∷ []; result = plain (λ _. R.row) }; kept = (yes, (yes, tt)) }

  abbrev board_clauses : {M : Type 1} (𝓤 : Ura M) → Clauses 𝓤 board_ended
  board_clauses 𝓤 κs a = record { ghost = Unit {0}; requires = λ _. emp 𝓤; ensures = λ _ r e. fact 𝓤 (c.Says a.0.now a.1.0.now r e.1.0.now) }

  abbrev pub Board : {M : Type 1} {𝓤 : Ura M} (𝓛 : Logic 𝓤) → Contract 𝓤
  Board {𝓤 = 𝓤} 𝓛 = triple_of 𝓛 board_ended.signature (closing 𝓛 board_ended (board_clauses 𝓤))

  -- `call`'s contract, and its MIR
  abbrev ended : Ended
  ended = record { signature = record { lifetimes = 1; outlives = []; params = ArrayOf (plain (λ _. row L)) (λ _. tt) N ∷ plain (λ _. usize) ∷ SliceRefMutOf (0 ∷ []) tt (plain (λ _. u8)) (λ _. tt) ∷ []; result = plain (λ _. R.row) }; kept = (yes, (yes, (yes, tt))) }

  abbrev clauses : {M : Type 1} (𝓤 : Ura M) → Clauses 𝓤 ended
  clauses 𝓤 κs a = record { ghost = Unit {0}; requires = λ _. fact 𝓤 (a.1.0 ≤ N); ensures = λ _ r e. fact 𝓤 (c.Says (take a.1.0 a.0) a.1.1.0.now r e.1.1.0.now) }

  abbrev function : Fn
  function = record {
    lifetimes = 1;
    outlives = [];
    ty_params = [];
    givens = 0;
    params = 3;
    locals = local R.mir value_local ∷ local (all_ty L N) value_local ∷ local (ty_int w64) value_local ∷ local (slice_ty (ty_ref (named 0) mut (ty_int w8))) value_local ∷ local (all_ty L N) memory_slot ∷ local (ty_ref erased imm (ty_array (pointee (row L).written) N)) value_local ∷ local (slice_ty (ty_ref erased imm (pointee (row L).written))) value_local ∷ local (ty_ref erased mut (ty_int w8)) value_local ∷ local (slice_ty (ty_ref erased mut (ty_int w8))) value_local ∷ [];
    body = seq (assign (place 4 []) (rv_opd (copy (place 1 []))))
        (seq (assign (place 5 []) (addr_of (place 4 [])))
        (seq (assign (place 6 []) (aggregate (copy (place 5 []) ∷ copy (place 2 []) ∷ [])))
        (seq (assign (place 7 []) (addr_of (place 3 (field 0 ∷ deref (ty_int w8) ∷ []))))
        (seq (assign (place 8 []) (aggregate (copy (place 7 []) ∷ copy (place 3 (field 1 ∷ [])) ∷ [])))
        (seq (call c.key (copy (place 6 []) ∷ copy (place 8 []) ∷ []) (place 0 [])) return)))));
  }

  -- nothing is had of the array and of n at exit, and of the buffer what says its last bytes
  abbrev stayed : Stays ended.signature.params ended.kept
  stayed = (stay_dropped (ArrayOf (plain (λ _. row L)) (λ _. tt) N) yes, (stay_dropped (plain (λ _. usize)) yes, (gave_slice (0 ∷ []) tt (plain (λ _. u8)), tt)))

  module _ {M : Type 1} {𝓤 : Ura M} (𝓛 : Logic 𝓤) where
    open 𝓛 use {H}

    module _ (κ : Lft) (q : Share) (xs : List L.type.D) (n : ℕ) (is : Is (all L N) xs (all_val L xs ∷ [])) (fits : n < 2 ^ 64) (within : n ≤ N) (b' o' : ℕ) (γ' : GName) (old : List ℕ) (room' : Room u8 (length old)) where
      abbrev buf : MutBor (List ℕ)
      buf = record { ref_ptr = (b', o'); ghost_name = γ'; now = old }

      -- its machine value
      abbrev v' : Val
      v' = slice_val (b', o') (length old)

      abbrev x : List L.type.D × (ℕ × (MutBor (List ℕ) × Unit {0}))
      x = (xs, (n, (buf, tt)))

      abbrev at : List Val × (List Val × (List Val × Unit {0}))
      at = (all_val L xs ∷ [], (vint w64 n ∷ [], (v' ∷ [], tt)))

      abbrev Post : Val → SProp 𝓤
      Post = (walk_of 𝓛 ended stayed (clauses 𝓤)).post (((κ, tt), (q, tt), tt, x, at), tt)

      -- there are N elements, n are lent, and they have room
      counted : length xs ≡ N
      counted = is.1.0.1

      taken : n ≡ length (take n xs)
      taken = sym (length-take-le n xs (subst (λ (k : ℕ). n ≤ k) (sym counted) within))

      room : Room (row L) (length (take n xs))
      room = Room-take (row L) N n xs counted m.room

      -- what the board's call is passed: the first n elements of the local at b, lent for the lifetime ν; and the buffer, at its own lifetime, share and name
      abbrev passed : ℕ → Bor (List L.type.D) × (MutBor (List ℕ) × Unit {0})
      passed b = (record { ref_ptr = (b, 0); now = take n xs }, (buf, tt))

      abbrev to_board : ℕ → ℕ → (Board 𝓛).Ghost
      to_board ν b = (((ν ∷ [], (κ, tt)), (full_share, (q, tt)), tt, passed b, (slice_val (b, 0) (length (take n xs)) ∷ [], (v' ∷ [], tt))), tt)

      abbrev Held : Fml
      Held = (MutSlice (named 0) κ u8).own_val buf (v' ∷ [])

      goes_board : (ν b : ℕ) → ent 𝓤 (⋆ 𝓛 ((‵ (flft (ν ∷ []) full_share) ⊛ ‵ (flft κ q)) ∷ ‵ (part_lent L N 𝓛 (ν ∷ []) b (take n xs)) ∷ ‵ Held ∷ [])) ((Board 𝓛).pre (to_board ν b))
      goes_board ν b =
          qed 𝓛 ((‵ (flft (ν ∷ []) full_share) ⊛ ‵ (flft κ q)) ∷ ‵ (part_lent L N 𝓛 (ν ∷ []) b (take n xs)) ∷ ‵ Held ∷ []) ∵ split ! $ nothing ! $ move ! (4 ∷ 0 ∷ []) $ fjoin ! $ move ! (3 ∷ 0 ∷ []) $ fjoin ! $
          nothing ! $ move ! (3 ∷ 0 ∷ []) $ join ! $ move ! (2 ∷ 0 ∷ []) $ join ! $ join ! $ frame ! $ done !

      -- the buffer's borrow, which the board's call hands back closed
      abbrev Closed : Fml
      Closed = fbor κ (Body (Arr (Holey (mem u8)) (length old)) b' o' γ')

      exits : (r : R.row.Denot) (w : Val) (new : List ℕ) → c.Says (take n xs) old r new → length new ≡ length old
          → ent 𝓤 (⋆ 𝓛 (‵ (flft κ q) ∷ ‵ (fsep (finally u8 γ' new) Closed) ∷ ‵ (R.row.own_val r (w ∷ [])) ∷ [])) (Post w)
      exits r w new e l =
          qed 𝓛 (‵ (flft κ q) ∷ ‵ (fsep (finally u8 γ' new) Closed) ∷ ‵ (R.row.own_val r (w ∷ [])) ∷ []) ∵
          suffices ! _ (ends_at 𝓛 ended stayed (clauses 𝓤) (((κ, tt), (q, tt), tt, x, at), tt) w r (m.last xs, (tt, (new, tt))) (tt, (tt, (l, tt)))) $ says ! e $
          nothing ! $ move ! (1 ∷ 0 ∷ []) $ join ! $ frame ! $
          nothing ! $ move ! (1 ∷ 0 ∷ []) $ fjoin ! $ nothing ! $ fjoin ! $ nothing ! $ fjoin ! $ done !

      module _ (𝓣 : Tables 𝓤 H) (known : Triple 𝓤 (𝓣.C c.key) (Board 𝓛)) where
        walk : ent 𝓤 (on_entry 𝓛 ended.signature (κ, tt) (q, tt) x at) (WpFn 𝓤 H 𝓣.C 𝓣.Λ function (all_val L xs ∷ vint w64 n ∷ v' ∷ []) Post)
        walk =
            qed 𝓛 ((‵ (flft κ q) ⊛ ‵ ftrue) ∷ ‵ (owns (all L N ∷ usize ∷ MutSlice (named 0) κ u8 ∷ []) x at) ∷ []) ∵ split ! $ move ! (2 ∷ []) $ fsplit ! $ drop ! $ fsplit ! $ drop ! $ fsplit ! $ keep ! (2 ∷ 0 ∷ []) $
            enter ! 𝓣.C 𝓣.Λ function (all_val L xs ∷ vint w64 n ∷ v' ∷ []) _ $
            alloc1 ! (λ l₀. alloc1 ! (λ l₁. alloc1 ! (λ l₂. alloc1 ! (λ l₃. alloc1 ! (λ l₄. alloc1 ! (λ l₅. alloc1 ! (λ l₆. alloc1 ! (λ l₇. alloc1 ! (λ l₈. alloc0 ! $ params1 ! $
            pass1 ! (init ! 14 refl ((Array-Lawful 𝓛 (row L) (LL.lawful L.type L.laws 𝓛) N).typed xs _ is).0) $ pass1 ! (init ! 12 refl (tt, record { fits = fits })) $ pass1 ! (init ! 10 refl (tt, (tt, (record { fits = room'.0 }, tt)))) $ pass0 ! $
            -- [the locals, the last first; the buffer's token; the buffer]
            assigns ! (of_opd ! (load ! (from ! (stop !)) (look ! 14 refl))) (from ! (stop !)) (init ! 8 refl ((Array-Lawful 𝓛 (row L) (LL.lawful L.type L.laws 𝓛) N).typed xs _ is).0) $
            assigns ! (addr ! (from ! (stop !))) (from ! (stop !)) (init ! 6 refl (tt, tt)) $
            rewrite ! 12 (λ (k : ℕ). ‵ (fat full_share (ty_int w64) l₂ 0 (vint w64 k))) taken refl $
            assigns ! (agg ! (and_then ! (load ! (from ! (stop !)) (look ! 6 refl)) (and_then ! (load ! (from ! (stop !)) (look ! 12 refl)) (no_more !)))) (from ! (stop !)) (init ! 4 refl (tt, (tt, (record { fits = room.0 }, tt)))) $
            assigns ! (addr ! (from ! (fld ! refl (hop ! (look_in ! 10 (sub ! 0 refl (whole !))) (stop !))))) (from ! (stop !)) (init ! 2 refl (tt, tt)) $
            assigns ! (agg ! (and_then ! (load ! (from ! (stop !)) (look ! 2 refl)) (and_then ! (load ! (from ! (fld ! refl (stop !))) (look_in ! 10 (sub ! 1 refl (whole !)))) (no_more !)))) (from ! (stop !)) (init ! 0 refl (tt, (tt, (record { fits = room'.0 }, tt)))) $
            -- the first n elements are lent, for a lifetime ν of the call
            lft_new ! tt (λ ν. move ! (9 ∷ []) $
            use1 𝓛 (later (‵ (part_lent L N 𝓛 (ν ∷ []) l₄ (take n xs)) ⊛ (‵ (flent (ν ∷ []) (lent_of L N 𝓛 (ν ∷ []) l₄ (take n xs))) ⊛ ‵ (rest_of L N 𝓛 (ν ∷ []) l₄ (take n xs) (behind n xs))))) (lends_part L N 𝓛 (ν ∷ []) l₄ xs n m.room is) $ await ! tt $ split3 ! $
            -- [the elements that are lent; the lender's part; the elements behind; the lifetime's token; the locals but for the array that is lent; the buffer's token; the buffer]
            move ! (3 ∷ 21 ∷ 0 ∷ 22 ∷ []) $ join ! $ use3 𝓛 (raw ((Board 𝓛).pre (to_board ν l₄))) (goes_board ν l₄) $
            -- [what the call asks; the lender's part; the elements behind; the locals but for the array that is lent]
            calls_at ! (fm_of 𝓤 H 𝓛.laws 𝓣) (Board 𝓛) known (to_board ν l₄) (and_then ! (load ! (from ! (stop !)) (look ! 7 refl)) (and_then ! (load ! (from ! (stop !)) (look ! 3 refl)) (no_more !))) (λ w.
            use1 𝓛 (later (some (λ (r : R.row.Denot). ((‵ (flft (ν ∷ []) full_share) ⊛ ‵ (flft κ q) ⊛ ‵ ftrue) ⊛ ‵ (R.row.own_val r (w ∷ []))) ⊛ raw (ensured 𝓛 board_ended (board_clauses 𝓤) (ν ∷ [], (κ, tt)) (passed l₄) tt r)))) (id⊢ 𝓤 _) $ await ! tt $ pick ! (λ r.
            -- what the board's call ensures, at some last bytes
            split ! $ move ! (1 ∷ []) $ use1 𝓛 (some (λ (ws : Lasts board_ended (ν ∷ [], (κ, tt)) (passed l₄)). ‵ (lasts board_ended (ν ∷ [], (κ, tt)) (passed l₄) ws) ⊛ raw (fact 𝓤 (c.Says (take n xs) old r ws.1.0)))) (id⊢ 𝓤 _) $ pick ! (λ ws.
            split ! $ move ! (1 ∷ []) $ heard ! (c.Says (take n xs) old r ws.1.0) (λ e. fsplit ! $ drop ! $ fsplit ! $ fsplit ! $ fsplit ! $ move ! (1 ∷ []) $ feq_l ! (λ l. fjoin ! $
            -- [the last bytes and the borrow; true; the tokens and the result; the lender's part; the elements behind; the locals]
            move ! (2 ∷ []) $ split ! $ split3 ! $ move ! (3 ∷ []) $ peeks ! R.row (Is R.row) (shows 𝓛 R.row) r (w ∷ []) (λ is-r.
            -- [the result; the lifetime's token; the buffer's token; true; the last bytes and the borrow; true; the lender's part; the elements behind; the locals]
            land ! (from ! (stop !)) (init ! 23 refl (R.typed 𝓛 r w is-r)) $
            -- the lifetime is ended, and the array is whole again
            move ! (1 ∷ []) $ lft_end ! tt $ move ! (0 ∷ 6 ∷ 7 ∷ []) $ use3 𝓛 (later (‵ (froom (all_ty L N) l₄ 0))) (part_back L N 𝓛 (ν ∷ []) l₄ xs n counted) $ await ! tt $
            -- [the array's room; the result; the buffer's token; true; the last bytes and the borrow; true; the other locals]
            returns ! (look ! 21 refl) $ forget ! 6 refl $ forget ! 8 refl $ forget ! 10 refl $ forget ! 12 refl $ forget ! 15 refl $ forget ! 17 refl $ forget ! 19 refl $ forget ! 21 refl $
            move ! (21 ∷ 22 ∷ []) $ free1 ! $ move ! (19 ∷ 20 ∷ []) $ free1 ! $ move ! (17 ∷ 18 ∷ []) $ free1 ! $ move ! (15 ∷ 16 ∷ []) $ free1 ! $ move ! (0 ∷ 14 ∷ []) $ free1 ! $ move ! (11 ∷ 12 ∷ []) $ free1 ! $ move ! (9 ∷ 10 ∷ []) $ free1 ! $ move ! (7 ∷ 8 ∷ []) $ free1 ! $ move ! (5 ∷ 6 ∷ []) $ free1 ! $ free0 ! $
            keep ! (1 ∷ 3 ∷ 0 ∷ []) $ by ! (exits r w ws.1.0 e l)))))))))))))))))

    goes_all : AllGo 𝓛 1 ended.signature.params ended.kept stayed
    goes_all = (Goes-dropped 𝓛 1 (ArrayOf (plain (λ _. row L)) (λ _. tt) N) yes (λ κs. m.silent), (Goes-dropped 𝓛 1 (plain (λ _. usize)) yes (λ κs k f. refl), (Goes-gave_slice 𝓛 1 0 tt (plain (λ _. u8)), tt)))

    pub lend_with : (𝓣 : Tables 𝓤 H) → Triple 𝓤 (𝓣.C c.key) (Board 𝓛) → Meets 𝓛 ended.signature (WpFn 𝓤 H 𝓣.C 𝓣.Λ function) (closing 𝓛 ended (clauses 𝓤))
    lend_with 𝓣 known =
        walk_Meets 𝓛 ended stayed goes_all (clauses 𝓤) (WpFn 𝓤 H 𝓣.C 𝓣.Λ function) (WpFn-mono 𝓤 H 𝓛.laws 𝓣 function)
        (walked 𝓛 ended stayed (clauses 𝓤) (WpFn 𝓤 H 𝓣.C 𝓣.Λ function)
        (λ κs. (array_vals (vals L), (uint_vals w64, (mut_slice_vals, tt)))) (λ κs. (Array-Tells (row L) (vals L) (LL.tells L.type L.laws) N, (uint_Tells w64, (mut_slice_Tells (named 0) κs.0 u8, tt))))
        (λ κs qs bounds a g are. needs 𝓤 (a.1.0 ≤ N) _ (λ within.
        walk κs.0 qs.0 a.0 a.1.0 are.0 are.1.0.1 within a.1.1.0.ref_ptr.0 a.1.1.0.ref_ptr.1 a.1.1.0.ghost_name a.1.1.0.now are.1.1.0.0.1 𝓣 known)))
