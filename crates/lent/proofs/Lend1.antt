-- A call that lends, of 1 plain parameter, proved once for all of them: `fn call(s: State, …) -> Stepped { let mut here = s; let answer = board(&mut here, …); Stepped { state: here, answer } }`.
--     Call         what is said of one call: what the board's call requires and ensures, and what `call` ensures
--     lend         `call`'s MIR meets its contract, from what the board's call ensures. The local is lent for a lifetime that is made here; once the call has returned the lifetime is ended, and the local comes back with the state that the call left
-- No field of a state or of an answer is named, so a new one changes nothing here.
-- Assumes nothing.
use mathlib.Core.Path.{refl, sym}
use Prim.Native.Nat.{ℕ}
use mathlib.Core.List.{[], ◌∷◌, List}
use seplogic.Ra.Ura.{Ura}
use base.Fraction.{full_share}
use mir.Syntax.{Callee, Fn, erased, mut, ty_ref, place, copy, local, value_local, memory_slot, seq, assign, call, return, rv_opd, addr_of, aggregate}
use mir.Val.{Val, vptr}
use base.Logic.{SProp, ent, sep, emp, id⊢}
use base.Fml.{GName, ftrue, flft, flent, fat}
use prog.Wp.{WpFn, Tables}
use types.Logic.{Logic, sem}
use contract.Monad.{fact}
use types.Kit.{‵, raw, ◌⊛◌, some, given, later, ◌$◌, ◌∵◌, !, qed, by, move, keep, drop, use1, use2, use3, split, join, pick, learn, rewrite, fsplit, fjoin, suffices, frame, await, done}
use types.Tokens.{lft_new, lft_end}
use types.Run.{look, init, forget, stop, from, load, addr, of_opd, and_then, no_more, land, assigns, returns, enter, alloc1, alloc0, params1, pass1, pass0, free1, free0}
use types.Part.{agg}
use types.SemTy.{Body}
use sound.WpLaws.{fm_of, WpFn-mono}
use denote.RattleType.{owns}
use denote.Laws.{Is, shows}
use denote.Memory.{mem, pointee}
use denote.Builtin.{RefMutOf}
use denote.Ref.{MutBor}
use denote.Signature.{plain}
use denote.Steps.{only, owned, peeks, heard, nothing}
use denote.Struct.Laws as LL
use denote.Triple.Statement.{Contract, Triple}
use denote.Triple.Call.{calls_at}
use denote.Triple.Entry.{on_entry}
use denote.Triple.Spec.{Meets, triple_of}
use denote.Triple.Clauses.{Clauses, Ended, Lasts, closing, ensured, lasts}
use denote.Triple.Walked.{says, needs, Stays, stay_dropped, walk_of, AllGo, Goes-dropped, ends_at, walked, walk_Meets}
use denote.Exit.{yes}
use Rattle.board.proofs.Arg.{Arg}
use Rattle.board.proofs.Data.{Data, Pair, row, ty, val, vals, pair, pair_laws, pair_row, pair_ty}
use Rattle.lent.proofs.Lending.{Made, made_is, pair_plain, lent, cell, lends, back}

-- what is said of one call. The board's call requires `Ok` of what lies behind the reference, and ensures `Says` of its answer and of what lies there in the end; `call` requires `Ok`, and ensures `Gives` of its result
pub record Call {S P : Data} {N : Pair S P} (m : Made N) (A₁ : Arg) : Type 1 where
  pub key : Callee
  pub Ok : S.type.D → A₁.row.Denot → Type 0
  pub Says : S.type.D → A₁.row.Denot → P.type.D → S.type.D → Type 0
  pub Gives : S.type.D → A₁.row.Denot → N.D → Type 0
  pub gives_so : (s : S.type.D) (x₁ : A₁.row.Denot) (p : P.type.D) (s' : S.type.D) → Ok s x₁ → Says s x₁ p s' → Gives s x₁ (m.make s' p)

module _ {S P : Data} {N : Pair S P} {m : Made N} {A₁ : Arg} (c : Call m A₁) where
  -- the contract of the board's call
  abbrev board_ended : Ended
  board_ended = record { signature = record { lifetimes = 1; outlives = []; params = RefMutOf (0 ∷ []) tt (plain (λ _. row S)) (λ _. tt) ∷ plain (λ _. A₁.row) ∷ []; result = plain (λ _. row P) }; kept = (yes, (yes, tt)) }

  abbrev board_clauses : {M : Type 1} (𝓤 : Ura M) → Clauses 𝓤 board_ended
  board_clauses 𝓤 κs a = record { ghost = Unit {0}; requires = λ _. fact 𝓤 (c.Ok a.0.now a.1.0); ensures = λ _ r e. fact 𝓤 (c.Says a.0.now a.1.0 r e.0.now) }

  abbrev pub Board : {M : Type 1} {𝓤 : Ura M} (𝓛 : Logic 𝓤) → Contract 𝓤
  Board {𝓤 = 𝓤} 𝓛 = triple_of 𝓛 board_ended.signature (closing 𝓛 board_ended (board_clauses 𝓤))

  -- `call`'s contract, and its MIR
  abbrev ended : Ended
  ended = record { signature = record { lifetimes = 0; outlives = []; params = plain (λ _. row S) ∷ plain (λ _. A₁.row) ∷ []; result = plain (λ _. pair_row N) }; kept = (yes, (yes, tt)) }

  abbrev clauses : {M : Type 1} (𝓤 : Ura M) → Clauses 𝓤 ended
  clauses 𝓤 κs a = record { ghost = Unit {0}; requires = λ _. fact 𝓤 (c.Ok a.0 a.1.0); ensures = λ _ r e. fact 𝓤 (c.Gives a.0 a.1.0 r) }

  abbrev function : Fn
  function = record {
    lifetimes = 0;
    outlives = [];
    ty_params = [];
    givens = 0;
    params = 2;
    locals = local (pair_ty N) value_local ∷ local (ty S) value_local ∷ local A₁.mir value_local ∷ local (ty S) memory_slot ∷ local (ty P) value_local ∷ local (ty_ref erased mut (pointee (row S).written)) value_local ∷ local (ty S) value_local ∷ [];
    body = seq (assign (place 3 []) (rv_opd (copy (place 1 []))))
        (seq (assign (place 5 []) (addr_of (place 3 [])))
        (seq (call c.key (copy (place 5 []) ∷ copy (place 2 []) ∷ []) (place 4 []))
        (seq (assign (place 6 []) (rv_opd (copy (place 3 []))))
        (seq (assign (place 0 []) (aggregate (copy (place 6 []) ∷ copy (place 4 []) ∷ []))) return))));
  }

  abbrev stayed : Stays ended.signature.params ended.kept
  stayed = (stay_dropped (plain (λ _. row S)) yes, (stay_dropped (plain (λ _. A₁.row)) yes, tt))

  abbrev n_val : N.D → Val
  n_val = LL.val (pair N) (pair_laws N)

  module _ {M : Type 1} {𝓤 : Ura M} (𝓛 : Logic 𝓤) where
    open 𝓛 use {H, A}

    module _ (h : S.type.D) (x₁ : A₁.row.Denot) (is : Is (row S) h (vals S h)) (is₁ : Is A₁.row x₁ (A₁.val x₁ ∷ [])) (ok : c.Ok h x₁) where
      abbrev x : S.type.D × (A₁.row.Denot × Unit {0})
      x = (h, (x₁, tt))

      abbrev at : List Val × (List Val × Unit {0})
      at = (vals S h, (A₁.val x₁ ∷ [], tt))

      abbrev Post : Val → SProp 𝓤
      Post = (walk_of 𝓛 ended stayed (clauses 𝓤)).post ((tt, tt, tt, x, at), tt)

      -- what the board's call is passed: the local at b, lent for the lifetime ν under the name γ
      abbrev passed : ℕ → GName → MutBor S.type.D × (A₁.row.Denot × Unit {0})
      passed b γ = (record { ref_ptr = (b, 0); ghost_name = γ; now = h }, (x₁, tt))

      abbrev to_board : ℕ → ℕ → GName → (Board 𝓛).Ghost
      to_board ν b γ = (((ν ∷ [], tt), (full_share, tt), tt, passed b γ, (vptr b 0 ∷ [], (A₁.val x₁ ∷ [], tt))), tt)

      goes_board : (ν b : ℕ) (γ : GName) → ent 𝓤 (sep 𝓤 (A.lft (ν ∷ []) full_share) (sem 𝓛 (lent S 𝓛 (ν ∷ []) b γ h))) ((Board 𝓛).pre (to_board ν b γ))
      goes_board ν b γ =
          qed 𝓛 (‵ (flft (ν ∷ []) full_share) ∷ ‵ (lent S 𝓛 (ν ∷ []) b γ h) ∷ []) ∵ says ! ok $ nothing ! $ move ! (1 ∷ 0 ∷ []) $ join ! $ frame ! $
          nothing ! $ owned ! A₁.row (Is A₁.row) (A₁.makes 𝓛) x₁ _ is₁ $ fjoin ! $ move ! (1 ∷ 0 ∷ []) $ fjoin ! $ done !

      exits : (p : P.type.D) (s' : S.type.D) → Is (row S) s' (vals S s') → Is (row P) p (vals P p) → c.Says h x₁ p s' → ent 𝓤 (emp 𝓤) (Post (n_val (m.make s' p)))
      exits p s' is-s is-p e =
          qed 𝓛 [] ∵ suffices ! _ (ends_at 𝓛 ended stayed (clauses 𝓤) ((tt, tt, tt, x, at), tt) (n_val (m.make s' p)) (m.make s' p) (m.last h, (A₁.last x₁, tt)) (tt, (tt, tt))) $
          says ! (c.gives_so h x₁ p s' ok e) $ nothing ! $ frame ! $ nothing ! $ nothing ! $ fjoin ! $ nothing ! $ fjoin ! $ frame ! $
          owned ! (pair_row N) (Is (pair_row N)) (LL.makes (pair N) (pair_plain N) 𝓛) (m.make s' p) _ (made_is m s' p is-s is-p) $ done !

      module _ (𝓣 : Tables 𝓤 H) (known : Triple 𝓤 (𝓣.C c.key) (Board 𝓛)) where
        walk : ent 𝓤 (on_entry 𝓛 ended.signature tt tt x at) (WpFn 𝓤 H 𝓣.C 𝓣.Λ function (val S h ∷ A₁.val x₁ ∷ []) Post)
        walk =
            qed 𝓛 (‵ ftrue ∷ ‵ (owns (row S ∷ A₁.row ∷ []) x at) ∷ []) ∵ keep ! [] $ enter ! 𝓣.C 𝓣.Λ function (val S h ∷ A₁.val x₁ ∷ []) _ $
            alloc1 ! (λ l₀. alloc1 ! (λ l₁. alloc1 ! (λ l₂. alloc1 ! (λ l₃. alloc1 ! (λ l₄. alloc1 ! (λ l₅. alloc1 ! (λ l₆. alloc0 ! $ params1 ! $
            pass1 ! (init ! 10 refl ((LL.lawful S.type S.laws 𝓛).typed h _ is).0) $ pass1 ! (init ! 8 refl (A₁.typed 𝓛 x₁ is₁)) $ pass0 ! $
            -- [the locals, the last first]
            assigns ! (of_opd ! (load ! (from ! (stop !)) (look ! 10 refl))) (from ! (stop !)) (init ! 6 refl ((LL.lawful S.type S.laws 𝓛).typed h _ is).0) $
            assigns ! (addr ! (from ! (stop !))) (from ! (stop !)) (init ! 2 refl (tt, tt)) $
            -- the local is lent, for a lifetime ν of the call
            lft_new ! tt (λ ν. move ! (7 ∷ []) $
            use1 𝓛 (later (some (λ (γ : GName). ‵ (lent S 𝓛 (ν ∷ []) l₃ γ h) ⊛ ‵ (flent (ν ∷ []) (Body (mem (row S)) l₃ 0 γ))))) (lends S 𝓛 (ν ∷ []) l₃ h is) $ await ! tt $ pick ! (λ γ. split ! $
            move ! (2 ∷ 0 ∷ []) $ use2 𝓛 (raw ((Board 𝓛).pre (to_board ν l₃ γ))) (goes_board ν l₃ γ) $
            -- [what the call asks; the lender's part; the locals but for the one that is lent]
            calls_at ! (fm_of 𝓤 H 𝓛.laws 𝓣) (Board 𝓛) known (to_board ν l₃ γ) (and_then ! (load ! (from ! (stop !)) (look ! 4 refl)) (and_then ! (load ! (from ! (stop !)) (look ! 9 refl)) (no_more !))) (λ v.
            use1 𝓛 (later (some (λ (p : P.type.D). ((‵ (flft (ν ∷ []) full_share) ⊛ ‵ ftrue) ⊛ ‵ ((row P).own_val p (v ∷ []))) ⊛ raw (ensured 𝓛 board_ended (board_clauses 𝓤) (ν ∷ [], tt) (passed l₃ γ) tt p)))) (id⊢ 𝓤 _) $ await ! tt $ pick ! (λ p.
            -- what it ensures, at the state that it left
            split ! $ move ! (1 ∷ []) $ use1 𝓛 (some (λ (ws : Lasts board_ended (ν ∷ [], tt) (passed l₃ γ)). ‵ (lasts board_ended (ν ∷ [], tt) (passed l₃ γ) ws) ⊛ raw (fact 𝓤 (c.Says h x₁ p ws.0)))) (id⊢ 𝓤 _) $ pick ! (λ ws.
            split ! $ move ! (1 ∷ []) $ heard ! (c.Says h x₁ p ws.0) (λ e. fsplit ! $ fsplit ! $ move ! (1 ∷ []) $ drop ! $ move ! (2 ∷ []) $ split ! $ move ! (1 ∷ []) $
            peeks ! (row P) (Is (row P)) (shows 𝓛 (row P)) p (v ∷ []) (λ is₀.
            land ! (from ! (stop !)) (init ! 9 refl ((LL.lawful P.type P.laws 𝓛).typed p _ is₀).0) $
            rewrite ! 9 (λ (us : List Val). ‵ (fat full_share (ty P) l₄ 0 (only us))) (LL.tells P.type P.laws p (v ∷ []) is₀) refl $
            rewrite ! 0 (λ (us : List Val). ‵ ((row P).own_val p us)) (LL.tells P.type P.laws p (v ∷ []) is₀) refl $
            peeks ! (row P) (Is (row P)) (shows 𝓛 (row P)) p (vals P p) (λ is-p. drop ! $
            -- the lifetime is ended, and the local comes back at that state
            split ! $ lft_end ! tt $ move ! (0 ∷ 4 ∷ 2 ∷ []) $
            use3 𝓛 (later (given (Is (row S) ws.0 (vals S ws.0)) (‵ (cell S 𝓛 (ν ∷ []) l₃ ws.0)))) (back S 𝓛 (ν ∷ []) l₃ γ ws.0) $ await ! tt $ learn ! (λ is-s.
            -- [the local's cell; true; what is said of the other parameters; the other locals]
            rewrite ! 0 (λ (t : S.type.D). ‵ (cell S 𝓛 (ν ∷ []) l₃ t)) (sym (m.state_is ws.0 p)) refl $
            rewrite ! 7 (λ (t : P.type.D). ‵ (fat full_share (ty P) l₄ 0 (val P t))) (sym (m.answer_is ws.0 p)) refl $
            assigns ! (of_opd ! (load ! (from ! (stop !)) (look ! 0 refl))) (from ! (stop !)) (init ! 3 refl ((LL.lawful S.type S.laws 𝓛).typed (N.state (m.make ws.0 p)) _ (LL.owed (pair N) (pair_laws N) (m.make ws.0 p) _ (made_is m ws.0 p is-s is-p)).0).0) $
            assigns ! (agg ! (and_then ! (load ! (from ! (stop !)) (look ! 3 refl)) (and_then ! (load ! (from ! (stop !)) (look ! 7 refl)) (no_more !)))) (from ! (stop !)) (init ! 14 refl ((LL.lawful (pair N) (pair_laws N) 𝓛).typed (m.make ws.0 p) _ (made_is m ws.0 p is-s is-p)).0) $
            returns ! (look ! 14 refl) $ forget ! 0 refl $ forget ! 3 refl $ forget ! 5 refl $ forget ! 7 refl $ forget ! 10 refl $ forget ! 12 refl $ forget ! 14 refl $
            move ! (14 ∷ 15 ∷ []) $ free1 ! $ move ! (12 ∷ 13 ∷ []) $ free1 ! $ move ! (10 ∷ 11 ∷ []) $ free1 ! $ move ! (0 ∷ 9 ∷ []) $ free1 ! $ move ! (6 ∷ 7 ∷ []) $ free1 ! $ move ! (4 ∷ 5 ∷ []) $ free1 ! $ move ! (2 ∷ 3 ∷ []) $ free1 ! $ free0 ! $
            keep ! [] $ by ! (exits p ws.0 is-s is-p e)))))))))))))))))

    goes_all : AllGo 𝓛 0 ended.signature.params ended.kept stayed
    goes_all = (Goes-dropped 𝓛 0 (plain (λ _. row S)) yes (λ κs. m.silent), (Goes-dropped 𝓛 0 (plain (λ _. A₁.row)) yes (λ κs. A₁.silent), tt))

    pub lend : (𝓣 : Tables 𝓤 H) → Triple 𝓤 (𝓣.C c.key) (Board 𝓛) → Meets 𝓛 ended.signature (WpFn 𝓤 H 𝓣.C 𝓣.Λ function) (closing 𝓛 ended (clauses 𝓤))
    lend 𝓣 known =
        walk_Meets 𝓛 ended stayed goes_all (clauses 𝓤) (WpFn 𝓤 H 𝓣.C 𝓣.Λ function) (WpFn-mono 𝓤 H 𝓛.laws 𝓣 function)
        (walked 𝓛 ended stayed (clauses 𝓤) (WpFn 𝓤 H 𝓣.C 𝓣.Λ function)
        (λ κs. (vals S, ((λ y. A₁.val y ∷ []), tt))) (λ κs. (LL.tells S.type S.laws, (A₁.tells, tt)))
        (λ κs qs bounds a g are. needs 𝓤 (c.Ok a.0 a.1.0) _ (λ ok. walk a.0 a.1.0 are.0 are.1.0 ok 𝓣 known)))
