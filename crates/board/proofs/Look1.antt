-- A thin question of 1 plain parameter, proved once for all of them: `fn question(s: &State, a) -> R { ask(*s, a) }`.
--     Ask          what is said of one question: what `ask` requires and ensures. `question` requires and ensures the same
--     looks_up     `question`'s MIR meets its contract, from what `ask` ensures. The borrow is looked into, the state is copied out and passed to `ask`
-- It is over any struct for the state and any result, and names no field of them: a new one changes nothing here.
-- Assumes nothing.
use mathlib.Core.Path.{refl}
use Prim.Native.Nat.{ℕ}
use mathlib.Core.List.{[], ◌∷◌, List}
use seplogic.Ra.Ura.{Ura}
use mir.Syntax.{Callee, Fn, named, imm, ty_ref, deref, place, copy, local, value_local, seq, assign, call, return, rv_opd}
use mir.Val.{Val, vptr}
use base.Logic.{SProp, ent, emp, snd∗, ex_e, id⊢}
use base.Fml.{Lft, Share, ftrue, flft}
use prog.Wp.{WpFn, Tables}
use types.Logic.{Logic, sem}
use contract.Monad.{fact}
use types.Kit.{‵, raw, ◌⊛◌, ⋆, some, later, ◌$◌, ◌∵◌, !, qed, by, move, keep, drop, use0, use1, split, join, pick, fsplit, fjoin, suffices, frame, await, done}
use types.Run.{look, look_raw, init, forget, stop, hop, from, load, of_opd, and_then, no_more, land, assigns, returns, enter, alloc1, alloc0, params1, pass1, pass0, free1, free0}
use sound.WpLaws.{fm_of, WpFn-mono}
use denote.RattleType.{owns}
use denote.Laws.{Is, shows}
use denote.Memory.{pointee}
use denote.Builtin.{RefOf}
use denote.Ref.{Bor, ShrRef, shr_vals, shr_Tells}
use denote.Signature.{plain}
use denote.Steps.{looks, shuts, owned, peeks, heard, nothing}
use denote.Struct.Steps.{spelt}
use denote.Struct.Laws as LL
use denote.Triple.Statement.{Contract, Triple}
use denote.Triple.Call.{calls_at}
use denote.Triple.Entry.{on_entry}
use denote.Triple.Spec.{Meets, triple_of}
use denote.Triple.Clauses.{Clauses, Ended, closing, ensured, lasts}
use denote.Triple.Walked.{says, needs, Stays, stay_dropped, walk_of, AllGo, Goes-dropped, ends_at, walked, walk_Meets}
use denote.Exit.{yes}
use Rattle.board.proofs.Arg.{Arg}
use Rattle.board.proofs.Data.{Data, row, ty, vals}
use Rattle.board.proofs.Relay.{Result}

-- what is said of one question. `ask` requires `Ok` and ensures `Gives` of its result; `question` requires and ensures the same of what lies behind the reference
pub record Ask (S : Data) (A₁ : Arg) (R : Result) : Type 1 where
  pub key : Callee
  pub Ok : S.type.D → A₁.row.Denot → Type 0
  pub Gives : S.type.D → A₁.row.Denot → R.row.Denot → Type 0

module _ {S : Data} {A₁ : Arg} {R : Result} (c : Ask S A₁ R) where
  -- `ask`'s contract
  abbrev ask_ended : Ended
  ask_ended = record { signature = record { lifetimes = 0; outlives = []; params = plain (λ _. row S) ∷ plain (λ _. A₁.row) ∷ []; result = plain (λ _. R.row) }; kept = (yes, (yes, tt)) }

  abbrev ask_clauses : {M : Type 1} (𝓤 : Ura M) → Clauses 𝓤 ask_ended
  ask_clauses 𝓤 κs a = record { ghost = Unit {0}; requires = λ _. fact 𝓤 (c.Ok a.0 a.1.0); ensures = λ _ r e. fact 𝓤 (c.Gives a.0 a.1.0 r) }

  abbrev pub Asked : {M : Type 1} {𝓤 : Ura M} (𝓛 : Logic 𝓤) → Contract 𝓤
  Asked {𝓤 = 𝓤} 𝓛 = triple_of 𝓛 ask_ended.signature (closing 𝓛 ask_ended (ask_clauses 𝓤))

  -- `question`'s contract, and its MIR
  abbrev ended : Ended
  ended = record { signature = record { lifetimes = 1; outlives = []; params = RefOf (0 ∷ []) tt (plain (λ _. row S)) (λ _. tt) ∷ plain (λ _. A₁.row) ∷ []; result = plain (λ _. R.row) }; kept = (yes, (yes, tt)) }

  abbrev clauses : {M : Type 1} (𝓤 : Ura M) → Clauses 𝓤 ended
  clauses 𝓤 κs a = record { ghost = Unit {0}; requires = λ _. fact 𝓤 (c.Ok a.0.now a.1.0); ensures = λ _ r e. fact 𝓤 (c.Gives a.0.now a.1.0 r) }

  abbrev function : Fn
  function = record {
    lifetimes = 1;
    outlives = [];
    ty_params = [];
    givens = 0;
    params = 2;
    locals = local R.mir value_local ∷ local (ty_ref (named 0) imm (pointee (row S).written)) value_local ∷ local A₁.mir value_local ∷ local (ty S) value_local ∷ [];
    body = seq (assign (place 3 []) (rv_opd (copy (place 1 (deref (ty S) ∷ []))))) (seq (call c.key (copy (place 3 []) ∷ copy (place 2 []) ∷ []) (place 0 [])) return);
  }

  abbrev stayed : Stays ended.signature.params ended.kept
  stayed = (stay_dropped (RefOf (0 ∷ []) tt (plain (λ _. row S)) (λ _. tt)) yes, (stay_dropped (plain (λ _. A₁.row)) yes, tt))

  module _ {M : Type 1} {𝓤 : Ura M} (𝓛 : Logic 𝓤) where
    open 𝓛 use {H}

    module _ (κ : Lft) (q : Share) (b o : ℕ) (h : S.type.D) (x₁ : A₁.row.Denot) (is₁ : Is A₁.row x₁ (A₁.val x₁ ∷ [])) (ok : c.Ok h x₁) where
      abbrev x : Bor S.type.D × (A₁.row.Denot × Unit {0})
      x = (record { ref_ptr = (b, o); now = h }, (x₁, tt))

      abbrev at : List Val × (List Val × (Unit {0}))
      at = (vptr b o ∷ [], (A₁.val x₁ ∷ [], tt))

      abbrev Post : Val → SProp 𝓤
      Post = (walk_of 𝓛 ended stayed (clauses 𝓤)).post (((κ, tt), (q, tt), tt, x, at), tt)

      -- what `ask`'s triple binds outside, what it asks, which is had for nothing, and what is known of its result
      abbrev to_ask : (Asked 𝓛).Ghost
      to_ask = ((tt, tt, tt, (h, (x₁, tt)), (vals S h, (A₁.val x₁ ∷ [], tt))), tt)

      goes_ask : Is (row S) h (vals S h) → ent 𝓤 (emp 𝓤) ((Asked 𝓛).pre to_ask)
      goes_ask is-h =
          qed 𝓛 [] ∵ says ! ok $ nothing ! $ nothing ! $ owned ! A₁.row (Is A₁.row) (A₁.makes 𝓛) x₁ _ is₁ $ fjoin ! $
          owned ! (row S) (Is (row S)) (LL.makes S.type S.plain 𝓛) h _ is-h $ fjoin ! $ move ! (1 ∷ 0 ∷ []) $ done !

      ask_said : (r : R.row.Denot) → ent 𝓤 (ensured 𝓛 ask_ended (ask_clauses 𝓤) tt (h, (x₁, tt)) tt r) (fact 𝓤 (c.Gives h x₁ r))
      ask_said r = ex_e 𝓤 _ (λ ws. snd∗ 𝓤 (sem 𝓛 (lasts ask_ended tt (h, (x₁, tt)) ws)) (fact 𝓤 (c.Gives h x₁ r)))

      exits : (r : R.row.Denot) (u : Val) → c.Gives h x₁ r → ent 𝓤 (⋆ 𝓛 (‵ (R.row.own_val r (u ∷ [])) ∷ ‵ (flft κ q) ∷ [])) (Post u)
      exits r u e =
          qed 𝓛 (‵ (R.row.own_val r (u ∷ [])) ∷ ‵ (flft κ q) ∷ []) ∵
          suffices ! _ (ends_at 𝓛 ended stayed (clauses 𝓤) (((κ, tt), (q, tt), tt, x, at), tt) u r (tt, (A₁.last x₁, tt)) (tt, (tt, tt))) $
          says ! e $ nothing ! $ move ! (2 ∷ 0 ∷ []) $ join ! $ frame ! $ nothing ! $ nothing ! $ fjoin ! $ nothing ! $ fjoin ! $ frame ! $ done !

      module _ (𝓣 : Tables 𝓤 H) (known : Triple 𝓤 (𝓣.C c.key) (Asked 𝓛)) where
        walk : ent 𝓤 (on_entry 𝓛 ended.signature (κ, tt) (q, tt) x at) (WpFn 𝓤 H 𝓣.C 𝓣.Λ function (vptr b o ∷ A₁.val x₁ ∷ []) Post)
        walk =
            qed 𝓛 ((‵ (flft κ q) ⊛ ‵ ftrue) ∷ ‵ (owns (ShrRef (named 0) κ (row S) ∷ A₁.row ∷ []) x at) ∷ []) ∵ enter ! 𝓣.C 𝓣.Λ function (vptr b o ∷ A₁.val x₁ ∷ []) _ $
            alloc1 ! (λ l₀. alloc1 ! (λ l₁. alloc1 ! (λ l₂. alloc1 ! (λ l₃. alloc0 ! $ params1 ! $
            pass1 ! (init ! 4 refl (tt, tt)) $ pass1 ! (init ! 2 refl (A₁.typed 𝓛 x₁ is₁)) $ pass0 ! $
            move ! (9 ∷ []) $ fsplit ! $ fsplit ! $ drop ! $ move ! (10 ∷ []) $ split ! $ move ! (2 ∷ 0 ∷ []) $
            looks ! tt (row S) (LL.copied S.type S.copies 𝓛).opens h b o (λ q' vs.
            spelt ! (row S) (Is (row S)) (shows 𝓛 (row S)) (vals S) (LL.tells S.type S.laws) q' h vs b o $
            move ! (1 ∷ []) $ peeks ! (row S) (Is (row S)) (shows 𝓛 (row S)) h (vals S h) (λ was. move ! (1 ∷ 0 ∷ []) $
            -- [a share of the state's cell; what it owns; what shuts; the borrow; true; the other parameters'; the locals, the last first]
            assigns ! (of_opd ! (load ! (from ! (hop ! (look ! 10 refl) (stop !))) (look_raw ! 0 refl))) (from ! (stop !)) (init ! 6 refl ((LL.lawful S.type S.laws 𝓛).typed h _ was).0) $
            shuts ! tt (row S) q' h (vals S h) b o $
            -- [the token; the borrow; true; the other parameters'; the locals]
            use0 𝓛 (raw ((Asked 𝓛).pre to_ask)) (goes_ask was) $
            calls_at ! (fm_of 𝓤 H 𝓛.laws 𝓣) (Asked 𝓛) known to_ask (and_then ! (load ! (from ! (stop !)) (look ! 5 refl)) (and_then ! (load ! (from ! (stop !)) (look ! 7 refl)) (no_more !))) (λ u.
            use1 𝓛 (later (some (λ (r : R.row.Denot). (‵ ftrue ⊛ ‵ (R.row.own_val r (u ∷ []))) ⊛ raw (ensured 𝓛 ask_ended (ask_clauses 𝓤) tt (h, (x₁, tt)) tt r)))) (id⊢ 𝓤 _) $ await ! tt $ pick ! (λ r.
            split ! $ move ! (1 ∷ []) $ use1 𝓛 (raw (fact 𝓤 (c.Gives h x₁ r))) (ask_said r) $ heard ! (c.Gives h x₁ r) (λ e. split ! $ drop ! $
            peeks ! R.row (Is R.row) (shows 𝓛 R.row) r (u ∷ []) (λ is. land ! (from ! (stop !)) (init ! 11 refl (R.typed 𝓛 r u is)) $
            returns ! (look ! 11 refl) $ forget ! 5 refl $ forget ! 7 refl $ forget ! 9 refl $ forget ! 11 refl $
            move ! (11 ∷ 12 ∷ []) $ free1 ! $ move ! (9 ∷ 10 ∷ []) $ free1 ! $ move ! (7 ∷ 8 ∷ []) $ free1 ! $ move ! (5 ∷ 6 ∷ []) $ free1 ! $ free0 ! $
            keep ! (0 ∷ 1 ∷ []) $ by ! (exits r u e)))))))))))

    goes_all : AllGo 𝓛 1 ended.signature.params ended.kept stayed
    goes_all = (Goes-dropped 𝓛 1 (RefOf (0 ∷ []) tt (plain (λ _. row S)) (λ _. tt)) yes (λ κs y f. refl), (Goes-dropped 𝓛 1 (plain (λ _. A₁.row)) yes (λ κs. A₁.silent), tt))

    pub looks_up : (𝓣 : Tables 𝓤 H) → Triple 𝓤 (𝓣.C c.key) (Asked 𝓛) → Meets 𝓛 ended.signature (WpFn 𝓤 H 𝓣.C 𝓣.Λ function) (closing 𝓛 ended (clauses 𝓤))
    looks_up 𝓣 known =
        walk_Meets 𝓛 ended stayed goes_all (clauses 𝓤) (WpFn 𝓤 H 𝓣.C 𝓣.Λ function) (WpFn-mono 𝓤 H 𝓛.laws 𝓣 function)
        (walked 𝓛 ended stayed (clauses 𝓤) (WpFn 𝓤 H 𝓣.C 𝓣.Λ function)
        (λ κs. (shr_vals, ((λ y. A₁.val y ∷ []), tt))) (λ κs. (shr_Tells (named 0) κs.0 (row S), (A₁.tells, tt)))
        (λ κs qs bounds a g are. needs 𝓤 (c.Ok a.0.now a.1.0) _ (λ ok. walk κs.0 qs.0 a.0.ref_ptr.0 a.0.ref_ptr.1 a.0.now a.1.0 are.1.0 ok 𝓣 known)))
