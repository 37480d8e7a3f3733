-- A thin call of 2 plain parameters, proved once for all of them: `fn call(s: &mut State, a, b) -> Answer { let next = step(*s, a, b); *s = next.state; next.answer }`.
--     Call         what is said of one call: what `step` requires and ensures, and what `call` ensures
--     thin         `call`'s MIR meets its contract, from what `step` ensures. The borrow is opened, the state is copied out and passed to `step`, and the borrow is closed at the state that `step` returned
-- It is over any struct for the state and for the answer, and names no field of them: a new one changes nothing here.
-- Assumes nothing.
use mathlib.Core.Path.{refl}
use Prim.Native.Nat.{ℕ}
use mathlib.Core.List.{[], ◌∷◌, List}
use seplogic.Ra.Ura.{Ura}
use base.Fraction.{full_share}
use mir.Syntax.{Callee, Fn, named, mut, ty_ref, deref, field, place, copy, local, value_local, seq, assign, call, return, rv_opd}
use mir.Val.{Val, vptr}
use base.Logic.{SProp, ent, sep, emp, snd∗, ex_e, id⊢}
use base.Fml.{GName, Lft, Share, ftrue, flft, fobs, fbor, fat}
use prog.Wp.{WpFn, Tables}
use types.Logic.{Logic, sem}
use contract.Monad.{fact}
use types.Kit.{‵, raw, ◌⊛◌, some, later, ◌$◌, ◌∵◌, !, qed, by, move, keep, drop, use0, use1, split, join, pick, rewrite, fsplit, fsplit3, fjoin, fjoin3, feq_i, suffices, frame, await, done}
use types.Run.{look, look_raw, init, store_raw, forget, stop, hop, fld, from, load, of_opd, and_then, no_more, land, assigns, returns, enter, alloc1, alloc0, params1, pass1, pass0, free1, free0}
use types.Part.{whole, sub, look_in}
use types.SemTy.{Body}
use sound.WpLaws.{fm_of, WpFn-mono}
use denote.RattleType.{owns}
use denote.Laws.{Is, shows}
use denote.Memory.{mem, pointee}
use denote.Builtin.{RefMutOf}
use denote.Ref.{MutBor, MutRef, mut_vals, mut_Tells}
use denote.Signature.{plain}
use denote.Steps.{only, opens, closes, owned, peeks, heard, nothing}
use denote.Struct.Steps.{spelt}
use denote.Struct.Laws as LL
use denote.Triple.Statement.{Contract, Triple}
use denote.Triple.Call.{calls_at}
use denote.Triple.Entry.{on_entry}
use denote.Triple.Spec.{Meets, triple_of}
use denote.Triple.Clauses.{Clauses, Ended, closing, ensured, lasts}
use denote.Triple.Walked.{says, needs, Stays, stay_ref, stay_dropped, walk_of, AllGo, Goes-dropped, Goes-ref, ends_at, walked, walk_Meets}
use denote.Exit.{yes}
use Rattle.board.proofs.Arg.{Arg}
use Rattle.board.proofs.Data.{Data, Pair, row, ty, val, vals, pair, pair_laws, pair_row, pair_ty, pair_vals}

-- what is said of one call. `step` requires `Ok` and ensures `Gives` of its result; `call` requires `Ok` of what lies behind the reference, and ensures `Says` of its answer and of what lies there in the end
pub record Call {S P : Data} (N : Pair S P) (A₁ A₂ : Arg) : Type 1 where
  pub key : Callee
  pub Ok : S.type.D → A₁.row.Denot → A₂.row.Denot → Type 0
  pub Gives : S.type.D → A₁.row.Denot → A₂.row.Denot → N.D → Type 0
  pub Says : S.type.D → A₁.row.Denot → A₂.row.Denot → P.type.D → S.type.D → Type 0
  pub says_so : (s : S.type.D) (x₁ : A₁.row.Denot) (x₂ : A₂.row.Denot) (r : N.D) → Ok s x₁ x₂ → Gives s x₁ x₂ r → Says s x₁ x₂ (N.answer r) (N.state r)

module _ {S P : Data} {N : Pair S P} {A₁ A₂ : Arg} (c : Call N A₁ A₂) where
  -- `step`'s contract
  abbrev step_ended : Ended
  step_ended = record { signature = record { lifetimes = 0; outlives = []; params = plain (λ _. row S) ∷ plain (λ _. A₁.row) ∷ plain (λ _. A₂.row) ∷ []; result = plain (λ _. pair_row N) }; kept = (yes, (yes, (yes, tt))) }

  abbrev step_clauses : {M : Type 1} (𝓤 : Ura M) → Clauses 𝓤 step_ended
  step_clauses 𝓤 κs a = record { ghost = Unit {0}; requires = λ _. fact 𝓤 (c.Ok a.0 a.1.0 a.1.1.0); ensures = λ _ r e. fact 𝓤 (c.Gives a.0 a.1.0 a.1.1.0 r) }

  abbrev pub Step : {M : Type 1} {𝓤 : Ura M} (𝓛 : Logic 𝓤) → Contract 𝓤
  Step {𝓤 = 𝓤} 𝓛 = triple_of 𝓛 step_ended.signature (closing 𝓛 step_ended (step_clauses 𝓤))

  -- `call`'s contract, and its MIR
  abbrev ended : Ended
  ended = record { signature = record { lifetimes = 1; outlives = []; params = RefMutOf (0 ∷ []) tt (plain (λ _. row S)) (λ _. tt) ∷ plain (λ _. A₁.row) ∷ plain (λ _. A₂.row) ∷ []; result = plain (λ _. row P) }; kept = (yes, (yes, (yes, tt))) }

  abbrev clauses : {M : Type 1} (𝓤 : Ura M) → Clauses 𝓤 ended
  clauses 𝓤 κs a = record { ghost = Unit {0}; requires = λ _. fact 𝓤 (c.Ok a.0.now a.1.0 a.1.1.0); ensures = λ _ r e. fact 𝓤 (c.Says a.0.now a.1.0 a.1.1.0 r e.0.now) }

  abbrev function : Fn
  function = record {
    lifetimes = 1;
    outlives = [];
    ty_params = [];
    givens = 0;
    params = 3;
    locals = local (ty P) value_local ∷ local (ty_ref (named 0) mut (pointee (row S).written)) value_local ∷ local A₁.mir value_local ∷ local A₂.mir value_local ∷ local (pair_ty N) value_local ∷ local (ty S) value_local ∷ local (ty S) value_local ∷ [];
    body = seq (assign (place 5 []) (rv_opd (copy (place 1 (deref (ty S) ∷ [])))))
        (seq (call c.key (copy (place 5 []) ∷ copy (place 2 []) ∷ copy (place 3 []) ∷ []) (place 4 []))
        (seq (assign (place 6 []) (rv_opd (copy (place 4 (field 0 ∷ [])))))
        (seq (assign (place 1 (deref (ty S) ∷ [])) (rv_opd (copy (place 6 []))))
        (seq (assign (place 0 []) (rv_opd (copy (place 4 (field 1 ∷ []))))) return))));
  }

  abbrev stayed : Stays ended.signature.params ended.kept
  stayed = (stay_ref (0 ∷ []) tt (plain (λ _. row S)), (stay_dropped (plain (λ _. A₁.row)) yes, (stay_dropped (plain (λ _. A₂.row)) yes, tt)))

  module _ {M : Type 1} {𝓤 : Ura M} (𝓛 : Logic 𝓤) where
    open 𝓛 use {H, A}

    module _ (κ : Lft) (q : Share) (b o : ℕ) (γ : GName) (h : S.type.D) (x₁ : A₁.row.Denot) (x₂ : A₂.row.Denot) (is₁ : Is A₁.row x₁ (A₁.val x₁ ∷ [])) (is₂ : Is A₂.row x₂ (A₂.val x₂ ∷ [])) (ok : c.Ok h x₁ x₂) where
      abbrev x : MutBor S.type.D × (A₁.row.Denot × (A₂.row.Denot × Unit {0}))
      x = (record { ref_ptr = (b, o); ghost_name = γ; now = h }, (x₁, (x₂, tt)))

      abbrev at : List Val × (List Val × (List Val × (Unit {0})))
      at = (vptr b o ∷ [], (A₁.val x₁ ∷ [], (A₂.val x₂ ∷ [], tt)))

      abbrev Post : Val → SProp 𝓤
      Post = (walk_of 𝓛 ended stayed (clauses 𝓤)).post (((κ, tt), (q, tt), tt, x, at), tt)

      -- what `step`'s triple binds outside, what it asks, which is had for nothing, and what is known of its result
      abbrev to_step : (Step 𝓛).Ghost
      to_step = ((tt, tt, tt, (h, (x₁, (x₂, tt))), (vals S h, (A₁.val x₁ ∷ [], (A₂.val x₂ ∷ [], tt)))), tt)

      goes_step : Is (row S) h (vals S h) → ent 𝓤 (emp 𝓤) ((Step 𝓛).pre to_step)
      goes_step is-h =
          qed 𝓛 [] ∵ says ! ok $ nothing ! $ nothing ! $ owned ! A₂.row (Is A₂.row) (A₂.makes 𝓛) x₂ _ is₂ $ fjoin ! $ owned ! A₁.row (Is A₁.row) (A₁.makes 𝓛) x₁ _ is₁ $ fjoin ! $
          owned ! (row S) (Is (row S)) (LL.makes S.type S.plain 𝓛) h _ is-h $ fjoin ! $ move ! (1 ∷ 0 ∷ []) $ done !

      step_said : (r : N.D) → ent 𝓤 (ensured 𝓛 step_ended (step_clauses 𝓤) tt (h, (x₁, (x₂, tt))) tt r) (fact 𝓤 (c.Gives h x₁ x₂ r))
      step_said r = ex_e 𝓤 _ (λ ws. snd∗ 𝓤 (sem 𝓛 (lasts step_ended tt (h, (x₁, (x₂, tt))) ws)) (fact 𝓤 (c.Gives h x₁ x₂ r)))

      exits : (r : N.D) → Is (pair_row N) r (pair_vals N r) → c.Gives h x₁ x₂ r
          → ent 𝓤 (sep 𝓤 (A.obs γ ((row S).coded.code (N.state r))) (sep 𝓤 (A.bor κ (Body (mem (row S)) b o γ)) (A.lft κ q))) (Post (val P (N.answer r)))
      exits r is e =
          qed 𝓛 (‵ (fobs γ ((row S).coded.code (N.state r))) ∷ ‵ (fbor κ (Body (mem (row S)) b o γ)) ∷ ‵ (flft κ q) ∷ []) ∵
          suffices ! _ (ends_at 𝓛 ended stayed (clauses 𝓤) (((κ, tt), (q, tt), tt, x, at), tt) (val P (N.answer r)) (N.answer r) (N.state r, (A₁.last x₁, (A₂.last x₂, tt))) (tt, (tt, (tt, tt)))) $
          says ! (c.says_so h x₁ x₂ r ok e) $ nothing ! $ move ! (3 ∷ 0 ∷ []) $ join ! $ frame ! $
          feq_i ! (List Val) (vptr b o ∷ []) (vptr b o ∷ []) refl $ fjoin3 ! $ nothing ! $ nothing ! $ fjoin ! $ nothing ! $ fjoin ! $ move ! (1 ∷ 0 ∷ []) $ fjoin ! $ frame ! $
          owned ! (row P) (Is (row P)) (LL.makes P.type P.plain 𝓛) (N.answer r) _ (LL.owed (pair N) (pair_laws N) r _ is).1.0 $ done !

      module _ (𝓣 : Tables 𝓤 H) (known : Triple 𝓤 (𝓣.C c.key) (Step 𝓛)) where
        walk : ent 𝓤 (on_entry 𝓛 ended.signature (κ, tt) (q, tt) x at) (WpFn 𝓤 H 𝓣.C 𝓣.Λ function (vptr b o ∷ A₁.val x₁ ∷ A₂.val x₂ ∷ []) Post)
        walk =
            qed 𝓛 ((‵ (flft κ q) ⊛ ‵ ftrue) ∷ ‵ (owns (MutRef (named 0) κ (row S) ∷ A₁.row ∷ A₂.row ∷ []) x at) ∷ []) ∵ enter ! 𝓣.C 𝓣.Λ function (vptr b o ∷ A₁.val x₁ ∷ A₂.val x₂ ∷ []) _ $
            alloc1 ! (λ l₀. alloc1 ! (λ l₁. alloc1 ! (λ l₂. alloc1 ! (λ l₃. alloc1 ! (λ l₄. alloc1 ! (λ l₅. alloc1 ! (λ l₆. alloc0 ! $ params1 ! $
            pass1 ! (init ! 10 refl (tt, tt)) $ pass1 ! (init ! 8 refl (A₁.typed 𝓛 x₁ is₁)) $ pass1 ! (init ! 6 refl (A₂.typed 𝓛 x₂ is₂)) $ pass0 ! $
            move ! (15 ∷ []) $ fsplit ! $ fsplit3 ! $ drop ! $ move ! (17 ∷ []) $ split ! $ move ! (2 ∷ 3 ∷ 0 ∷ []) $
            opens ! tt (row S) {h = h} b o (λ vs. spelt ! (row S) (Is (row S)) (shows 𝓛 (row S)) (vals S) (LL.tells S.type S.laws) full_share h vs b o $
            move ! (1 ∷ []) $ peeks ! (row S) (Is (row S)) (shows 𝓛 (row S)) h (vals S h) (λ was. drop ! $
            -- [the state's cell; the open borrow; obs; auth; true; the other parameters'; the locals, the last first]
            assigns ! (of_opd ! (load ! (from ! (hop ! (look ! 16 refl) (stop !))) (look_raw ! 0 refl))) (from ! (stop !)) (init ! 8 refl ((LL.lawful S.type S.laws 𝓛).typed h _ was).0) $
            use0 𝓛 (raw ((Step 𝓛).pre to_step)) (goes_step was) $
            calls_at ! (fm_of 𝓤 H 𝓛.laws 𝓣) (Step 𝓛) known to_step (and_then ! (load ! (from ! (stop !)) (look ! 9 refl)) (and_then ! (load ! (from ! (stop !)) (look ! 15 refl)) (and_then ! (load ! (from ! (stop !)) (look ! 13 refl)) (no_more !)))) (λ v.
            use1 𝓛 (later (some (λ (r : N.D). (‵ ftrue ⊛ ‵ ((pair_row N).own_val r (v ∷ []))) ⊛ raw (ensured 𝓛 step_ended (step_clauses 𝓤) tt (h, (x₁, (x₂, tt))) tt r)))) (id⊢ 𝓤 _) $ await ! tt $ pick ! (λ r.
            split ! $ move ! (1 ∷ []) $ use1 𝓛 (raw (fact 𝓤 (c.Gives h x₁ x₂ r))) (step_said r) $ heard ! (c.Gives h x₁ x₂ r) (λ e. split ! $ drop ! $
            peeks ! (pair_row N) (Is (pair_row N)) (shows 𝓛 (pair_row N)) r (v ∷ []) (λ is₀.
            land ! (from ! (stop !)) (init ! 11 refl ((LL.lawful (pair N) (pair_laws N) 𝓛).typed r _ is₀).0) $
            rewrite ! 11 (λ (us : List Val). ‵ (fat full_share (pair_ty N) l₄ 0 (only us))) (LL.tells (pair N) (pair_laws N) r (v ∷ []) is₀) refl $
            rewrite ! 0 (λ (us : List Val). ‵ ((pair_row N).own_val r us)) (LL.tells (pair N) (pair_laws N) r (v ∷ []) is₀) refl $
            peeks ! (pair_row N) (Is (pair_row N)) (shows 𝓛 (pair_row N)) r (pair_vals N r) (λ is. drop ! $
            -- as above
            assigns ! (of_opd ! (load ! (from ! (fld ! refl (stop !))) (look_in ! 10 (sub ! 0 refl (whole !))))) (from ! (stop !)) (init ! 6 refl ((LL.lawful S.type S.laws 𝓛).typed (N.state r) _ (LL.owed (pair N) (pair_laws N) r _ is).0).0) $
            assigns ! (of_opd ! (load ! (from ! (stop !)) (look ! 6 refl))) (from ! (hop ! (look ! 16 refl) (stop !))) (store_raw ! 0 refl ((LL.lawful S.type S.laws 𝓛).typed (N.state r) _ (LL.owed (pair N) (pair_laws N) r _ is).0).0) $
            assigns ! (of_opd ! (load ! (from ! (fld ! refl (stop !))) (look_in ! 10 (sub ! 1 refl (whole !))))) (from ! (stop !)) (init ! 18 refl ((LL.lawful P.type P.laws 𝓛).typed (N.answer r) _ (LL.owed (pair N) (pair_laws N) r _ is).1.0).0) $
            owned ! (row S) (Is (row S)) (LL.makes S.type S.plain 𝓛) (N.state r) (vals S (N.state r)) (LL.owed (pair N) (pair_laws N) r _ is).0 $ move ! (1 ∷ 0 ∷ []) $ closes ! tt (row S) (N.state r) (vals S (N.state r)) b o $
            -- [obs; the borrow; the token; true; the other parameters'; the locals]
            returns ! (look ! 17 refl) $ forget ! 5 refl $ forget ! 7 refl $ forget ! 9 refl $ forget ! 11 refl $ forget ! 13 refl $ forget ! 15 refl $ forget ! 17 refl $
            move ! (17 ∷ 18 ∷ []) $ free1 ! $ move ! (15 ∷ 16 ∷ []) $ free1 ! $ move ! (13 ∷ 14 ∷ []) $ free1 ! $ move ! (11 ∷ 12 ∷ []) $ free1 ! $ move ! (9 ∷ 10 ∷ []) $ free1 ! $ move ! (7 ∷ 8 ∷ []) $ free1 ! $ move ! (5 ∷ 6 ∷ []) $ free1 ! $ free0 ! $
            keep ! (0 ∷ 1 ∷ 2 ∷ []) $ by ! (exits r is e)))))))))))))))

    goes_all : AllGo 𝓛 1 ended.signature.params ended.kept stayed
    goes_all = (Goes-ref 𝓛 1 0 tt (plain (λ _. row S)), (Goes-dropped 𝓛 1 (plain (λ _. A₁.row)) yes (λ κs. A₁.silent), (Goes-dropped 𝓛 1 (plain (λ _. A₂.row)) yes (λ κs. A₂.silent), tt)))

    pub thin : (𝓣 : Tables 𝓤 H) → Triple 𝓤 (𝓣.C c.key) (Step 𝓛) → Meets 𝓛 ended.signature (WpFn 𝓤 H 𝓣.C 𝓣.Λ function) (closing 𝓛 ended (clauses 𝓤))
    thin 𝓣 known =
        walk_Meets 𝓛 ended stayed goes_all (clauses 𝓤) (WpFn 𝓤 H 𝓣.C 𝓣.Λ function) (WpFn-mono 𝓤 H 𝓛.laws 𝓣 function)
        (walked 𝓛 ended stayed (clauses 𝓤) (WpFn 𝓤 H 𝓣.C 𝓣.Λ function)
        (λ κs. (mut_vals, ((λ y. A₁.val y ∷ []), ((λ y. A₂.val y ∷ []), tt)))) (λ κs. (mut_Tells (named 0) κs.0 (row S), (A₁.tells, (A₂.tells, tt))))
        (λ κs qs bounds a g are. needs 𝓤 (c.Ok a.0.now a.1.0 a.1.1.0) _ (λ ok. walk κs.0 qs.0 a.0.ref_ptr.0 a.0.ref_ptr.1 a.0.ghost_name a.0.now a.1.0 a.1.1.0 are.1.0 are.1.1.0 ok 𝓣 known)))
