-- A call that lends the first elements of an array, proved once: `fn call(lines: [Line; N], n: usize) -> Checked { board(&lines[..n]) }`, where n is at most N.
--     Lines        what is asked of the array's type
--     Call         what is said of the call: what the board's call ensures of the elements that it was lent and of its result
--     lend_part    `call`'s MIR meets its contract, from what the board's call ensures. The first n elements are lent for a lifetime that is made here; once the call has returned the lifetime is ended, and the array is whole again
-- No field of an element or of a result is named, so a new one changes nothing here.
-- Assumes nothing.
use mathlib.Core.Path.{◌≡◌, refl, sym, subst}
use Prim.Native.Nat.{ℕ, ◌≤◌, ◌<◌, ◌^◌}
use mathlib.Core.List.{[], ◌∷◌, List}
use lib.ListN.{length, take, drop as behind}
use seplogic.Ra.Ura.{Ura}
use base.Fraction.{full_share}
use mir.Syntax.{Callee, Fn, erased, imm, w64, ty_int, ty_ref, ty_array, place, copy, local, value_local, memory_slot, seq, assign, call, return, rv_opd, addr_of, aggregate}
use mir.Val.{Val, vint}
use base.Logic.{SProp, ent, sep, emp, snd∗, ex_e, id⊢}
use base.Fml.{ftrue, flft, flent, fat, froom}
use prog.Wp.{WpFn, Tables}
use types.Logic.{Logic, sem}
use contract.Monad.{fact}
use types.Kit.{‵, raw, ◌⊛◌, some, later, ◌$◌, ◌∵◌, !, qed, by, move, keep, drop, use1, use2, use3, split, split3, join, pick, rewrite, fjoin, suffices, frame, await, done}
use types.Tokens.{lft_new, lft_end}
use types.Run.{look, init, forget, stop, from, load, addr, of_opd, and_then, no_more, land, assigns, returns, enter, alloc1, alloc0, params1, pass1, pass0, free1, free0}
use types.Part.{agg}
use sound.WpLaws.{fm_of, WpFn-mono}
use denote.RattleType.{owns}
use denote.Laws.{Is, shows}
use denote.Memory.{pointee}
use denote.Plain.{uint_vals, uint_Tells}
use denote.Builtin.{ArrayOf, SliceRefOf, usize}
use denote.Array.{array_vals, Array-Tells, Array-Lawful}
use denote.Ref.{Bor}
use denote.Slice.{Room, slice_ty, slice_val}
use denote.Signature.{plain}
use denote.Steps.{owned, peeks, heard, nothing}
use denote.Struct.Laws as LL
use denote.Triple.Statement.{Contract, Triple}
use denote.Triple.Call.{calls_at}
use denote.Triple.Entry.{on_entry}
use denote.Triple.Spec.{Meets, triple_of}
use denote.Triple.Clauses.{Clauses, Ended, closing, ensured, lasts}
use denote.Triple.Walked.{says, needs, Stays, stay_dropped, walk_of, AllGo, Goes-dropped, ends_at, walked, walk_Meets}
use denote.Exit.{Last, left, yes}
use lib.Seq.{length-take-le}
use borrow.Rule.Array.Share.{Room-take}
use Rattle.board.proofs.Data.{Data, row, ty, vals}
use Rattle.lent.proofs.Slicing.{all, all_ty, all_val, part_lent, lent_of, rest_of, lends_part, part_back}

-- N elements have room, and an array of them, as a parameter by value, is as it was passed at exit
pub record Lines (L : Data) (N : ℕ) : Type 2 where
  pub room : Room (row L) N
  pub last : (xs : List L.type.D) → Last ((all L N).exit yes) xs
  pub silent : (xs : List L.type.D) (f : Last ((all L N).exit yes) xs) → left ((all L N).exit yes) xs f ≡ ftrue

-- what is said of the call. The board's call ensures `Says` of the elements that it was lent and of its result; `call` requires that n is at most N, and ensures `Says` of the first n elements and of its result
pub record Call (L Q : Data) : Type 1 where
  pub key : Callee
  pub Says : List L.type.D → Q.type.D → Type 0

module _ {L Q : Data} {N : ℕ} (m : Lines L N) (c : Call L Q) where
  -- the contract of the board's call
  abbrev board_ended : Ended
  board_ended = record { signature = record { lifetimes = 1; outlives = []; params = SliceRefOf (0 ∷ []) tt (plain (λ _. row L)) (λ _. tt) ∷ []; result = plain (λ _. row Q) }; kept = (yes, tt) }

  abbrev board_clauses : {M : Type 1} (𝓤 : Ura M) → Clauses 𝓤 board_ended
  board_clauses 𝓤 κs a = record { ghost = Unit {0}; requires = λ _. emp 𝓤; ensures = λ _ r e. fact 𝓤 (c.Says a.0.now r) }

  abbrev pub Board : {M : Type 1} {𝓤 : Ura M} (𝓛 : Logic 𝓤) → Contract 𝓤
  Board {𝓤 = 𝓤} 𝓛 = triple_of 𝓛 board_ended.signature (closing 𝓛 board_ended (board_clauses 𝓤))

  -- `call`'s contract, and its MIR
  abbrev ended : Ended
  ended = record { signature = record { lifetimes = 0; outlives = []; params = ArrayOf (plain (λ _. row L)) (λ _. tt) N ∷ plain (λ _. usize) ∷ []; result = plain (λ _. row Q) }; kept = (yes, (yes, tt)) }

  abbrev clauses : {M : Type 1} (𝓤 : Ura M) → Clauses 𝓤 ended
  clauses 𝓤 κs a = record { ghost = Unit {0}; requires = λ _. fact 𝓤 (a.1.0 ≤ N); ensures = λ _ r e. fact 𝓤 (c.Says (take a.1.0 a.0) r) }

  abbrev function : Fn
  function = record {
    lifetimes = 0;
    outlives = [];
    ty_params = [];
    givens = 0;
    params = 2;
    locals = local (ty Q) value_local ∷ local (all_ty L N) value_local ∷ local (ty_int w64) value_local ∷ local (all_ty L N) memory_slot ∷ local (ty_ref erased imm (ty_array (pointee (row L).written) N)) value_local ∷ local (slice_ty (ty_ref erased imm (pointee (row L).written))) value_local ∷ [];
    body = seq (assign (place 3 []) (rv_opd (copy (place 1 []))))
        (seq (assign (place 4 []) (addr_of (place 3 [])))
        (seq (assign (place 5 []) (aggregate (copy (place 4 []) ∷ copy (place 2 []) ∷ [])))
        (seq (call c.key (copy (place 5 []) ∷ []) (place 0 [])) return)));
  }

  abbrev stayed : Stays ended.signature.params ended.kept
  stayed = (stay_dropped (ArrayOf (plain (λ _. row L)) (λ _. tt) N) yes, (stay_dropped (plain (λ _. usize)) yes, tt))

  module _ {M : Type 1} {𝓤 : Ura M} (𝓛 : Logic 𝓤) where
    open 𝓛 use {H, A}

    module _ (xs : List L.type.D) (n : ℕ) (is : Is (all L N) xs (all_val L xs ∷ [])) (fits : n < 2 ^ 64) (within : n ≤ N) where
      abbrev x : List L.type.D × (ℕ × Unit {0})
      x = (xs, (n, tt))

      abbrev at : List Val × (List Val × Unit {0})
      at = (all_val L xs ∷ [], (vint w64 n ∷ [], tt))

      abbrev Post : Val → SProp 𝓤
      Post = (walk_of 𝓛 ended stayed (clauses 𝓤)).post ((tt, tt, tt, x, at), tt)

      -- there are N elements, n are lent, and they have room
      counted : length xs ≡ N
      counted = is.1.0.1

      taken : n ≡ length (take n xs)
      taken = sym (length-take-le n xs (subst (λ (k : ℕ). n ≤ k) (sym counted) within))

      room : Room (row L) (length (take n xs))
      room = Room-take (row L) N n xs counted m.room

      -- what the board's call is passed: the first n elements of the local at b, lent for the lifetime ν
      abbrev passed : ℕ → Bor (List L.type.D) × Unit {0}
      passed b = (record { ref_ptr = (b, 0); now = take n xs }, tt)

      abbrev to_board : ℕ → ℕ → (Board 𝓛).Ghost
      to_board ν b = (((ν ∷ [], tt), (full_share, tt), tt, passed b, (slice_val (b, 0) (length (take n xs)) ∷ [], tt)), tt)

      goes_board : (ν b : ℕ) → ent 𝓤 (sep 𝓤 (A.lft (ν ∷ []) full_share) (sem 𝓛 (part_lent L N 𝓛 (ν ∷ []) b (take n xs)))) ((Board 𝓛).pre (to_board ν b))
      goes_board ν b =
          qed 𝓛 (‵ (flft (ν ∷ []) full_share) ∷ ‵ (part_lent L N 𝓛 (ν ∷ []) b (take n xs)) ∷ []) ∵ nothing ! $ move ! (1 ∷ 0 ∷ []) $ join ! $ nothing ! $ move ! (2 ∷ 0 ∷ []) $ fjoin ! $ move ! (1 ∷ 0 ∷ []) $ join ! $ nothing ! $ move ! (1 ∷ 0 ∷ []) $ done !

      board_said : (ν b : ℕ) (r : Q.type.D) → ent 𝓤 (ensured 𝓛 board_ended (board_clauses 𝓤) (ν ∷ [], tt) (passed b) tt r) (fact 𝓤 (c.Says (take n xs) r))
      board_said ν b r = ex_e 𝓤 _ (λ ws. snd∗ 𝓤 (sem 𝓛 (lasts board_ended (ν ∷ [], tt) (passed b) ws)) (fact 𝓤 (c.Says (take n xs) r)))

      exits : (r : Q.type.D) (v : Val) → Is (row Q) r (v ∷ []) → c.Says (take n xs) r → ent 𝓤 (emp 𝓤) (Post v)
      exits r v is-r e =
          qed 𝓛 [] ∵ suffices ! _ (ends_at 𝓛 ended stayed (clauses 𝓤) ((tt, tt, tt, x, at), tt) v r (m.last xs, (tt, tt)) (tt, (tt, tt))) $
          says ! e $ nothing ! $ frame ! $ nothing ! $ nothing ! $ fjoin ! $ nothing ! $ fjoin ! $ frame ! $ owned ! (row Q) (Is (row Q)) (LL.makes Q.type Q.plain 𝓛) r _ is-r $ done !

      module _ (𝓣 : Tables 𝓤 H) (known : Triple 𝓤 (𝓣.C c.key) (Board 𝓛)) where
        walk : ent 𝓤 (on_entry 𝓛 ended.signature tt tt x at) (WpFn 𝓤 H 𝓣.C 𝓣.Λ function (all_val L xs ∷ vint w64 n ∷ []) Post)
        walk =
            qed 𝓛 (‵ ftrue ∷ ‵ (owns (all L N ∷ usize ∷ []) x at) ∷ []) ∵ keep ! [] $ enter ! 𝓣.C 𝓣.Λ function (all_val L xs ∷ vint w64 n ∷ []) _ $
            alloc1 ! (λ l₀. alloc1 ! (λ l₁. alloc1 ! (λ l₂. alloc1 ! (λ l₃. alloc1 ! (λ l₄. alloc1 ! (λ l₅. alloc0 ! $ params1 ! $
            pass1 ! (init ! 8 refl ((Array-Lawful 𝓛 (row L) (LL.lawful L.type L.laws 𝓛) N).typed xs _ is).0) $ pass1 ! (init ! 6 refl (tt, record { fits = fits })) $ pass0 ! $
            -- [the locals, the last first]
            assigns ! (of_opd ! (load ! (from ! (stop !)) (look ! 8 refl))) (from ! (stop !)) (init ! 4 refl ((Array-Lawful 𝓛 (row L) (LL.lawful L.type L.laws 𝓛) N).typed xs _ is).0) $
            assigns ! (addr ! (from ! (stop !))) (from ! (stop !)) (init ! 2 refl (tt, tt)) $
            rewrite ! 6 (λ (k : ℕ). ‵ (fat full_share (ty_int w64) l₂ 0 (vint w64 k))) taken refl $
            assigns ! (agg ! (and_then ! (load ! (from ! (stop !)) (look ! 2 refl)) (and_then ! (load ! (from ! (stop !)) (look ! 6 refl)) (no_more !)))) (from ! (stop !)) (init ! 0 refl (tt, (tt, (record { fits = room.0 }, tt)))) $
            -- the first n elements are lent, for a lifetime ν of the call
            lft_new ! tt (λ ν. move ! (5 ∷ []) $
            use1 𝓛 (later (‵ (part_lent L N 𝓛 (ν ∷ []) l₃ (take n xs)) ⊛ (‵ (flent (ν ∷ []) (lent_of L N 𝓛 (ν ∷ []) l₃ (take n xs))) ⊛ ‵ (rest_of L N 𝓛 (ν ∷ []) l₃ (take n xs) (behind n xs))))) (lends_part L N 𝓛 (ν ∷ []) l₃ xs n m.room is) $ await ! tt $ split3 ! $
            move ! (3 ∷ 0 ∷ []) $ use2 𝓛 (raw ((Board 𝓛).pre (to_board ν l₃))) (goes_board ν l₃) $
            -- [what the call asks; the lender's part; the elements behind; the locals but for the array that is lent]
            calls_at ! (fm_of 𝓤 H 𝓛.laws 𝓣) (Board 𝓛) known (to_board ν l₃) (and_then ! (load ! (from ! (stop !)) (look ! 3 refl)) (no_more !)) (λ v.
            use1 𝓛 (later (some (λ (r : Q.type.D). ((‵ (flft (ν ∷ []) full_share) ⊛ ‵ ftrue) ⊛ ‵ ((row Q).own_val r (v ∷ []))) ⊛ raw (ensured 𝓛 board_ended (board_clauses 𝓤) (ν ∷ [], tt) (passed l₃) tt r)))) (id⊢ 𝓤 _) $ await ! tt $ pick ! (λ r.
            split ! $ move ! (1 ∷ []) $ use1 𝓛 (raw (fact 𝓤 (c.Says (take n xs) r))) (board_said ν l₃ r) $ heard ! (c.Says (take n xs) r) (λ e. split ! $ move ! (1 ∷ []) $
            peeks ! (row Q) (Is (row Q)) (shows 𝓛 (row Q)) r (v ∷ []) (λ is-r. drop ! $
            land ! (from ! (stop !)) (init ! 12 refl ((LL.lawful Q.type Q.laws 𝓛).typed r _ is-r).0) $
            -- the lifetime is ended, and the array is whole again
            split ! $ lft_end ! tt $ move ! (0 ∷ 2 ∷ 3 ∷ []) $ use3 𝓛 (later (‵ (froom (all_ty L N) l₃ 0))) (part_back L N 𝓛 (ν ∷ []) l₃ xs n counted) $ await ! tt $
            -- [the array's room; true; the other locals]
            returns ! (look ! 11 refl) $ forget ! 2 refl $ forget ! 4 refl $ forget ! 7 refl $ forget ! 9 refl $ forget ! 11 refl $
            move ! (11 ∷ 12 ∷ []) $ free1 ! $ move ! (9 ∷ 10 ∷ []) $ free1 ! $ move ! (7 ∷ 8 ∷ []) $ free1 ! $ move ! (0 ∷ 6 ∷ []) $ free1 ! $ move ! (3 ∷ 4 ∷ []) $ free1 ! $ move ! (1 ∷ 2 ∷ []) $ free1 ! $ free0 ! $
            keep ! [] $ by ! (exits r v is-r e))))))))))))

    goes_all : AllGo 𝓛 0 ended.signature.params ended.kept stayed
    goes_all = (Goes-dropped 𝓛 0 (ArrayOf (plain (λ _. row L)) (λ _. tt) N) yes (λ κs. m.silent), (Goes-dropped 𝓛 0 (plain (λ _. usize)) yes (λ κs k f. refl), tt))

    pub lend_part : (𝓣 : Tables 𝓤 H) → Triple 𝓤 (𝓣.C c.key) (Board 𝓛) → Meets 𝓛 ended.signature (WpFn 𝓤 H 𝓣.C 𝓣.Λ function) (closing 𝓛 ended (clauses 𝓤))
    lend_part 𝓣 known =
        walk_Meets 𝓛 ended stayed goes_all (clauses 𝓤) (WpFn 𝓤 H 𝓣.C 𝓣.Λ function) (WpFn-mono 𝓤 H 𝓛.laws 𝓣 function)
        (walked 𝓛 ended stayed (clauses 𝓤) (WpFn 𝓤 H 𝓣.C 𝓣.Λ function)
        (λ κs. (array_vals (vals L), (uint_vals w64, tt))) (λ κs. (Array-Tells (row L) (vals L) (LL.tells L.type L.laws) N, (uint_Tells w64, tt)))
        (λ κs qs bounds a g are. needs 𝓤 (a.1.0 ≤ N) _ (λ within. walk a.0 a.1.0 are.0 are.1.0.1 within 𝓣 known)))
