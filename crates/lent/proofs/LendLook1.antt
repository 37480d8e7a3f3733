-- A question that lends, of 1 plain parameter, proved once for all of them: `fn call(s: State, a) -> R { let here = s; board(&here, a) }`.
--     Call         what is said of one call, beside what the board's question requires and ensures (`Ask`): what `call` ensures
--     lend_look    `call`'s MIR meets its contract, from what the board's question ensures. The local is lent by `&` for a lifetime that is made here; once the question has returned the lifetime is ended, and the local comes back as it was
-- It is over any struct for the state and any result, and names no field of them: a new one changes nothing here.
-- Assumes nothing.
use mathlib.Core.Path.{◌≡◌, refl, sym, subst}
use Prim.Native.Nat.{ℕ}
use mathlib.Core.List.{[], ◌∷◌, List}
use seplogic.Ra.Ura.{Ura}
use base.Fraction.{full_share}
use mir.Syntax.{Fn, erased, imm, ty_ref, place, copy, local, value_local, memory_slot, seq, assign, call, return, rv_opd, addr_of}
use mir.Val.{Val, vptr}
use base.Logic.{SProp, ent, sep, snd∗, ex_e, id⊢}
use base.Fml.{ftrue, flft, flent}
use prog.Wp.{WpFn, Tables}
use types.Logic.{Logic, sem}
use contract.Monad.{fact}
use types.Kit.{‵, raw, ◌⊛◌, some, later, ◌$◌, ◌∵◌, !, qed, by, move, keep, use1, use2, split, join, pick, fjoin, suffices, frame, await, done}
use types.Tokens.{lft_new, lft_end}
use types.Run.{look, init, forget, stop, from, load, addr, of_opd, and_then, no_more, land, assigns, returns, enter, alloc1, alloc0, params1, pass1, pass0, free1, free0}
use sound.WpLaws.{fm_of, WpFn-mono}
use denote.RattleType.{owns}
use denote.Laws.{Is, shows}
use denote.Memory.{pointee}
use denote.Builtin.{RefOf}
use denote.Ref.{Bor}
use denote.Signature.{plain}
use denote.Steps.{owned, peeks, heard, nothing}
use denote.Struct.Laws as LL
use denote.Triple.Statement.{Contract, Triple}
use denote.Triple.Call.{calls_at}
use denote.Triple.Entry.{on_entry}
use denote.Triple.Spec.{Meets, triple_of}
use denote.Triple.Clauses.{Clauses, Ended, closing, ensured, lasts}
use denote.Triple.Walked.{says, needs, Stays, stay_dropped, walk_of, AllGo, Goes-dropped, ends_at, walked, walk_Meets}
use denote.Exit.{Exit, Last, left, yes}
use Rattle.board.proofs.Arg.{Arg}
use Rattle.board.proofs.Data.{Data, row, ty, val, vals}
use Rattle.board.proofs.Relay.{Result}
use Rattle.board.proofs.Look1.{Ask}
use Rattle.lent.proofs.Lending.{shared, held, cell, lends_shared, shared_back}

-- the state, as a parameter by value, is as it was passed at exit: nothing is bound and nothing said of it
module _ (S : Data) (s : S.type.D) where
  last : Last ((row S).exit yes) s
  last = subst (λ (e : Exit S.type.D). Last e s) (sym (LL.still S.type S.copies yes)) tt

  silent : (f : Last ((row S).exit yes) s) → left ((row S).exit yes) s f ≡ ftrue
  silent = subst (λ (e : Exit S.type.D). (f : Last e s) → left e s f ≡ ftrue) (sym (LL.still S.type S.copies yes)) (λ f. refl)

-- what is said of one call. The board's question requires `Ok` of what lies behind the reference, and ensures `Gives` of that and of its result; `call` requires `Ok` of its state, and ensures `Says` of it and of its result
pub record Call {S : Data} {A₁ : Arg} {R : Result} (q : Ask S A₁ R) : Type 1 where
  pub Says : S.type.D → A₁.row.Denot → R.row.Denot → Type 0
  pub says_so : (s : S.type.D) (x₁ : A₁.row.Denot) (r : R.row.Denot) → q.Ok s x₁ → q.Gives s x₁ r → Says s x₁ r

module _ {S : Data} {A₁ : Arg} {R : Result} {q : Ask S A₁ R} (c : Call q) where
  -- the contract of the board's question
  abbrev board_ended : Ended
  board_ended = record { signature = record { lifetimes = 1; outlives = []; params = RefOf (0 ∷ []) tt (plain (λ _. row S)) (λ _. tt) ∷ plain (λ _. A₁.row) ∷ []; result = plain (λ _. R.row) }; kept = (yes, (yes, tt)) }

  abbrev board_clauses : {M : Type 1} (𝓤 : Ura M) → Clauses 𝓤 board_ended
  board_clauses 𝓤 κs a = record { ghost = Unit {0}; requires = λ _. fact 𝓤 (q.Ok a.0.now a.1.0); ensures = λ _ r e. fact 𝓤 (q.Gives a.0.now a.1.0 r) }

  abbrev pub Board : {M : Type 1} {𝓤 : Ura M} (𝓛 : Logic 𝓤) → Contract 𝓤
  Board {𝓤 = 𝓤} 𝓛 = triple_of 𝓛 board_ended.signature (closing 𝓛 board_ended (board_clauses 𝓤))

  -- `call`'s contract, and its MIR
  abbrev ended : Ended
  ended = record { signature = record { lifetimes = 0; outlives = []; params = plain (λ _. row S) ∷ plain (λ _. A₁.row) ∷ []; result = plain (λ _. R.row) }; kept = (yes, (yes, tt)) }

  abbrev clauses : {M : Type 1} (𝓤 : Ura M) → Clauses 𝓤 ended
  clauses 𝓤 κs a = record { ghost = Unit {0}; requires = λ _. fact 𝓤 (q.Ok a.0 a.1.0); ensures = λ _ r e. fact 𝓤 (c.Says a.0 a.1.0 r) }

  abbrev function : Fn
  function = record {
    lifetimes = 0;
    outlives = [];
    ty_params = [];
    givens = 0;
    params = 2;
    locals = local R.mir value_local ∷ local (ty S) value_local ∷ local A₁.mir value_local ∷ local (ty S) memory_slot ∷ local (ty_ref erased imm (pointee (row S).written)) value_local ∷ [];
    body = seq (assign (place 3 []) (rv_opd (copy (place 1 []))))
        (seq (assign (place 4 []) (addr_of (place 3 [])))
        (seq (call q.key (copy (place 4 []) ∷ copy (place 2 []) ∷ []) (place 0 [])) return));
  }

  abbrev stayed : Stays ended.signature.params ended.kept
  stayed = (stay_dropped (plain (λ _. row S)) yes, (stay_dropped (plain (λ _. A₁.row)) yes, tt))

  module _ {M : Type 1} {𝓤 : Ura M} (𝓛 : Logic 𝓤) where
    open 𝓛 use {H, A}

    module _ (h : S.type.D) (x₁ : A₁.row.Denot) (is : Is (row S) h (vals S h)) (is₁ : Is A₁.row x₁ (A₁.val x₁ ∷ [])) (ok : q.Ok h x₁) where
      abbrev x : S.type.D × (A₁.row.Denot × Unit {0})
      x = (h, (x₁, tt))

      abbrev at : List Val × (List Val × Unit {0})
      at = (vals S h, (A₁.val x₁ ∷ [], tt))

      abbrev Post : Val → SProp 𝓤
      Post = (walk_of 𝓛 ended stayed (clauses 𝓤)).post ((tt, tt, tt, x, at), tt)

      -- what the board's question is passed: the local at b, lent for the lifetime ν
      abbrev passed : ℕ → Bor S.type.D × (A₁.row.Denot × Unit {0})
      passed b = (record { ref_ptr = (b, 0); now = h }, (x₁, tt))

      abbrev to_board : ℕ → ℕ → (Board 𝓛).Ghost
      to_board ν b = (((ν ∷ [], tt), (full_share, tt), tt, passed b, (vptr b 0 ∷ [], (A₁.val x₁ ∷ [], tt))), tt)

      goes_board : (ν b : ℕ) → ent 𝓤 (sep 𝓤 (A.lft (ν ∷ []) full_share) (sem 𝓛 (shared S 𝓛 (ν ∷ []) b h))) ((Board 𝓛).pre (to_board ν b))
      goes_board ν b =
          qed 𝓛 (‵ (flft (ν ∷ []) full_share) ∷ ‵ (shared S 𝓛 (ν ∷ []) b h) ∷ []) ∵ says ! ok $ nothing ! $ move ! (1 ∷ 0 ∷ []) $ join ! $ frame ! $
          nothing ! $ owned ! A₁.row (Is A₁.row) (A₁.makes 𝓛) x₁ _ is₁ $ fjoin ! $ move ! (1 ∷ 0 ∷ []) $ fjoin ! $ done !

      board_said : (ν b : ℕ) (r : R.row.Denot) → ent 𝓤 (ensured 𝓛 board_ended (board_clauses 𝓤) (ν ∷ [], tt) (passed b) tt r) (fact 𝓤 (q.Gives h x₁ r))
      board_said ν b r = ex_e 𝓤 _ (λ ws. snd∗ 𝓤 (sem 𝓛 (lasts board_ended (ν ∷ [], tt) (passed b) ws)) (fact 𝓤 (q.Gives h x₁ r)))

      exits : (r : R.row.Denot) (v : Val) → q.Gives h x₁ r → ent 𝓤 (sem 𝓛 (R.row.own_val r (v ∷ []))) (Post v)
      exits r v e =
          qed 𝓛 (‵ (R.row.own_val r (v ∷ [])) ∷ []) ∵ suffices ! _ (ends_at 𝓛 ended stayed (clauses 𝓤) ((tt, tt, tt, x, at), tt) v r (last S h, (A₁.last x₁, tt)) (tt, (tt, tt))) $
          says ! (c.says_so h x₁ r ok e) $ nothing ! $ frame ! $ nothing ! $ nothing ! $ fjoin ! $ nothing ! $ fjoin ! $ frame ! $ done !

      module _ (𝓣 : Tables 𝓤 H) (known : Triple 𝓤 (𝓣.C q.key) (Board 𝓛)) where
        walk : ent 𝓤 (on_entry 𝓛 ended.signature tt tt x at) (WpFn 𝓤 H 𝓣.C 𝓣.Λ function (val S h ∷ A₁.val x₁ ∷ []) Post)
        walk =
            qed 𝓛 (‵ ftrue ∷ ‵ (owns (row S ∷ A₁.row ∷ []) x at) ∷ []) ∵ keep ! [] $ enter ! 𝓣.C 𝓣.Λ function (val S h ∷ A₁.val x₁ ∷ []) _ $
            alloc1 ! (λ l₀. alloc1 ! (λ l₁. alloc1 ! (λ l₂. alloc1 ! (λ l₃. alloc1 ! (λ l₄. alloc0 ! $ params1 ! $
            pass1 ! (init ! 6 refl ((LL.lawful S.type S.laws 𝓛).typed h _ is).0) $ pass1 ! (init ! 4 refl (A₁.typed 𝓛 x₁ is₁)) $ pass0 ! $
            -- [the locals, the last first]
            assigns ! (of_opd ! (load ! (from ! (stop !)) (look ! 6 refl))) (from ! (stop !)) (init ! 2 refl ((LL.lawful S.type S.laws 𝓛).typed h _ is).0) $
            assigns ! (addr ! (from ! (stop !))) (from ! (stop !)) (init ! 0 refl (tt, tt)) $
            -- the local is lent, for a lifetime ν of the question
            lft_new ! tt (λ ν. move ! (3 ∷ []) $
            use1 𝓛 (later (‵ (shared S 𝓛 (ν ∷ []) l₃ h) ⊛ ‵ (flent (ν ∷ []) (held S 𝓛 (ν ∷ []) l₃ h)))) (lends_shared S 𝓛 (ν ∷ []) l₃ h is) $ await ! tt $ split ! $
            move ! (2 ∷ 0 ∷ []) $ use2 𝓛 (raw ((Board 𝓛).pre (to_board ν l₃))) (goes_board ν l₃) $
            -- [what the question asks; the lender's part; the locals but for the one that is lent]
            calls_at ! (fm_of 𝓤 H 𝓛.laws 𝓣) (Board 𝓛) known (to_board ν l₃) (and_then ! (load ! (from ! (stop !)) (look ! 2 refl)) (and_then ! (load ! (from ! (stop !)) (look ! 5 refl)) (no_more !))) (λ v.
            use1 𝓛 (later (some (λ (r : R.row.Denot). ((‵ (flft (ν ∷ []) full_share) ⊛ ‵ ftrue) ⊛ ‵ (R.row.own_val r (v ∷ []))) ⊛ raw (ensured 𝓛 board_ended (board_clauses 𝓤) (ν ∷ [], tt) (passed l₃) tt r)))) (id⊢ 𝓤 _) $ await ! tt $ pick ! (λ r.
            split ! $ move ! (1 ∷ []) $ use1 𝓛 (raw (fact 𝓤 (q.Gives h x₁ r))) (board_said ν l₃ r) $ heard ! (q.Gives h x₁ r) (λ e. split ! $ move ! (1 ∷ []) $
            peeks ! R.row (Is R.row) (shows 𝓛 R.row) r (v ∷ []) (λ is₀. land ! (from ! (stop !)) (init ! 10 refl (R.typed 𝓛 r v is₀)) $
            -- the lifetime is ended, and the local is as it was
            move ! (1 ∷ []) $ split ! $ lft_end ! tt $ move ! (0 ∷ 3 ∷ []) $ use2 𝓛 (later (‵ (cell S 𝓛 (ν ∷ []) l₃ h))) (shared_back S 𝓛 (ν ∷ []) l₃ h) $ await ! tt $
            -- [the local's cell; true; the result; the other locals]
            returns ! (look ! 10 refl) $ forget ! 0 refl $ forget ! 3 refl $ forget ! 6 refl $ forget ! 8 refl $ forget ! 10 refl $
            move ! (10 ∷ 11 ∷ []) $ free1 ! $ move ! (8 ∷ 9 ∷ []) $ free1 ! $ move ! (6 ∷ 7 ∷ []) $ free1 ! $ move ! (0 ∷ 5 ∷ []) $ free1 ! $ move ! (2 ∷ 3 ∷ []) $ free1 ! $ free0 ! $
            keep ! (1 ∷ []) $ by ! (exits r v e)))))))))))

    goes_all : AllGo 𝓛 0 ended.signature.params ended.kept stayed
    goes_all = (Goes-dropped 𝓛 0 (plain (λ _. row S)) yes (λ κs. silent S), (Goes-dropped 𝓛 0 (plain (λ _. A₁.row)) yes (λ κs. A₁.silent), tt))

    pub lend_look : (𝓣 : Tables 𝓤 H) → Triple 𝓤 (𝓣.C q.key) (Board 𝓛) → Meets 𝓛 ended.signature (WpFn 𝓤 H 𝓣.C 𝓣.Λ function) (closing 𝓛 ended (clauses 𝓤))
    lend_look 𝓣 known =
        walk_Meets 𝓛 ended stayed goes_all (clauses 𝓤) (WpFn 𝓤 H 𝓣.C 𝓣.Λ function) (WpFn-mono 𝓤 H 𝓛.laws 𝓣 function)
        (walked 𝓛 ended stayed (clauses 𝓤) (WpFn 𝓤 H 𝓣.C 𝓣.Λ function)
        (λ κs. (vals S, ((λ y. A₁.val y ∷ []), tt))) (λ κs. (LL.tells S.type S.laws, (A₁.tells, tt)))
        (λ κs qs bounds a g are. needs 𝓤 (q.Ok a.0 a.1.0) _ (λ ok. walk a.0 a.1.0 are.0 are.1.0 ok 𝓣 known)))
