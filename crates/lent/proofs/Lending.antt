-- A struct of plain data in a local: it is lent by `&mut` for a lifetime, and comes back with the last value of the reference; or it is lent by `&`, and comes back as it was.
--     lends        the local's cell  ⊢ ⇛ ∃ γ. the `&κ mut` of it, and the lender's part
--     back         [†κ], the lender's part and the last value y  ⊢ ⇛ the local's cell, which holds y
--     lends_shared the local's cell  ⊢ ⇛ the `&κ` of it, and the lender's part
--     shared_back  [†κ] and the lender's part  ⊢ ⇛ the local's cell, as it was
--     Made         a struct of two such, which can be made of the two.        made_is       what is known of its machine value, from what is known of theirs
-- Assumes nothing.
use mathlib.Core.Path.{◌≡◌, refl, sym, subst}
use Prim.Native.Nat.{ℕ}
use mathlib.Core.List.{List, [], ◌∷◌}
use seplogic.Ra.Ura.{Ura}
use base.Fraction.{full_share}
use mir.Syntax.{named}
use mir.Raw.{raw as raw_ty}
use mir.Val.{Val, vptr}
use base.Logic.{ent, sep, ex, guard}
use base.Fml.{Lft, GName, Fml, ftrue, fat, fsep, fdead, flent, fres}
use types.Logic.{Logic, sem}
use types.Kit.{‵, ◌⊛◌, some, later, ◌$◌, ◌∵◌, !, qed, move, drop, use1, use3, check, rewrite, fsplit, fjoin, fpick, fpack, await, updating, now as at_once, done}
use types.Tokens.{lent_back}
use types.SemTy.{Body}
use denote.Laws.{Is, shows}
use denote.Memory.{mem, part_at, part_of, cell_at}
use denote.Ref.{MutRef, ShrRef}
use denote.Lend.{lends_ref, ref_back, lends_free}
use denote.Steps.{owned, peeks}
use denote.Exit.{Last, left, yes}
use denote.Struct.Struct.{Plains}
use denote.Struct.Declared as declared
use denote.Struct.Laws as LL
use Rattle.board.proofs.Data.{Data, Pair, row, ty, val, vals, pair, pair_laws, pair_row, pair_vals}

module _ (S : Data) {M : Type 1} {𝓤 : Ura M} (𝓛 : Logic 𝓤) (κ : Lft) (b : ℕ) where
  -- the reference to the local
  open 𝓛 use {H, A}

  abbrev pub lent : GName → S.type.D → Fml
  lent γ h = (MutRef (named 0) κ (row S)).own_val (record { ref_ptr = (b, 0); ghost_name = γ; now = h }) (vptr b 0 ∷ [])

  -- what is in the local
  abbrev pub cell : S.type.D → Fml
  cell h = fat full_share (ty S) b 0 (val S h)

  pub lends : (h : S.type.D) → Is (row S) h (vals S h) → ent 𝓤 (sem 𝓛 (cell h)) (H.⇛ (ex 𝓤 (λ (γ : GName). sep 𝓤 (sem 𝓛 (lent γ h)) (A.lent κ (Body (mem (row S)) b 0 γ)))))
  unfolding part_of
  lends h is =
      qed 𝓛 (‵ (cell h) ∷ []) ∵ updating ! $ use1 𝓛 (‵ (fat full_share (raw_ty (ty S)) b 0 (val S h))) (𝓛.laws.at_raw full_share (ty S) b 0 (val S h)) $
      owned ! (row S) (Is (row S)) (LL.makes S.type S.plain 𝓛) h (vals S h) is $ move ! (1 ∷ 0 ∷ []) $ fjoin ! $
      fpack ! (List Val) (λ us. fsep (cell_at full_share (row S).mir us b 0) ((row S).own_val h us)) (vals S h) $
      use1 𝓛 (later (some (λ (γ : GName). ‵ (lent γ h) ⊛ ‵ (flent κ (Body (mem (row S)) b 0 γ))))) (lends_ref 𝓛 (row S) (named 0) κ h b 0) $ await ! tt $ at_once ! $ done !

  pub back : (γ : GName) (y : S.type.D) → ent 𝓤 (sep 𝓤 (A.dead κ) (sep 𝓤 (A.lent κ (Body (mem (row S)) b 0 γ)) (A.res γ ((row S).coded.code y)))) (H.⇛ (guard 𝓤 (Is (row S) y (vals S y)) (sem 𝓛 (cell y))))
  unfolding part_of
  back γ y =
      qed 𝓛 (‵ (fdead κ) ∷ ‵ (flent κ (Body (mem (row S)) b 0 γ)) ∷ ‵ (fres γ ((row S).coded.code y)) ∷ []) ∵ updating ! $
      use3 𝓛 (later (‵ ((mem (row S)).own_at y b 0))) (ref_back 𝓛 (row S) κ γ y b 0) $ await ! tt $ fpick ! (λ vs. fsplit ! $ move ! (1 ∷ []) $
      peeks ! (row S) (Is (row S)) (shows 𝓛 (row S)) y vs (λ is. drop ! $ rewrite ! 0 (λ (us : List Val). ‵ (cell_at full_share (row S).mir us b 0)) (LL.tells S.type S.laws y vs is) refl $
      use1 𝓛 (‵ (cell y)) (𝓛.laws.raw_at full_share (ty S) b 0 (val S y)) $ at_once ! $ check ! (subst (Is (row S) y) (LL.tells S.type S.laws y vs is) is) $ done !))

  -- the same by `&`: the reference, and what the lender is to have back
  abbrev pub shared : S.type.D → Fml
  shared h = (ShrRef (named 0) κ (row S)).own_val (record { ref_ptr = (b, 0); now = h }) (vptr b 0 ∷ [])

  abbrev pub held : S.type.D → Fml
  held h = part_at (row S) full_share h b 0

  pub lends_shared : (h : S.type.D) → Is (row S) h (vals S h) → ent 𝓤 (sem 𝓛 (cell h)) (H.⇛ (sep 𝓤 (sem 𝓛 (shared h)) (A.lent κ (held h))))
  unfolding part_of
  lends_shared h is =
      qed 𝓛 (‵ (cell h) ∷ []) ∵ updating ! $ use1 𝓛 (‵ (fat full_share (raw_ty (ty S)) b 0 (val S h))) (𝓛.laws.at_raw full_share (ty S) b 0 (val S h)) $
      owned ! (row S) (Is (row S)) (LL.makes S.type S.plain 𝓛) h (vals S h) is $ move ! (1 ∷ 0 ∷ []) $ fjoin ! $
      fpack ! (List Val) (λ us. fsep (cell_at full_share (row S).mir us b 0) ((row S).own_val h us)) (vals S h) $
      use1 𝓛 (later (‵ (shared h) ⊛ ‵ (flent κ (held h)))) (lends_free 𝓛 (row S) (named 0) κ full_share h b 0 ((LL.copied S.type S.copies 𝓛).lends full_share h b 0)) $ await ! tt $ at_once ! $ done !

  pub shared_back : (h : S.type.D) → ent 𝓤 (sep 𝓤 (A.dead κ) (A.lent κ (held h))) (H.⇛ (sem 𝓛 (cell h)))
  unfolding part_of
  shared_back h =
      qed 𝓛 (‵ (fdead κ) ∷ ‵ (flent κ (held h)) ∷ []) ∵ updating ! $ lent_back ! tt $ fpick ! (λ vs. fsplit ! $ move ! (1 ∷ []) $
      peeks ! (row S) (Is (row S)) (shows 𝓛 (row S)) h vs (λ is. drop ! $ rewrite ! 0 (λ (us : List Val). ‵ (cell_at full_share (row S).mir us b 0)) (LL.tells S.type S.laws h vs is) refl $
      use1 𝓛 (‵ (cell h)) (𝓛.laws.raw_at full_share (ty S) b 0 (val S h)) $ at_once ! $ done !))

-- the pair's first, as a parameter by value, is as it was passed at exit: nothing is bound and nothing said of it
pub record Made {S P : Data} (N : Pair S P) : Type 2 where
  pub make : S.type.D → P.type.D → N.D
  pub state_is : (s : S.type.D) (p : P.type.D) → N.state (make s p) ≡ s
  pub answer_is : (s : S.type.D) (p : P.type.D) → N.answer (make s p) ≡ p
  pub last : (s : S.type.D) → Last ((row S).exit yes) s
  pub silent : (s : S.type.D) (f : Last ((row S).exit yes) s) → left ((row S).exit yes) s f ≡ ftrue

module _ {S P : Data} {N : Pair S P} (m : Made N) (s : S.type.D) (p : P.type.D) where
  pub made_is : Is (row S) s (vals S s) → Is (row P) p (vals P p) → Is (pair_row N) (m.make s p) (pair_vals N (m.make s p))
  made_is is-s is-p = LL.owes (pair N) (pair_laws N) (m.make s p)
      (subst (λ (t : S.type.D). Is (row S) t (vals S t)) (sym (m.state_is s p)) is-s, (subst (λ (t : P.type.D). Is (row P) t (vals P t)) (sym (m.answer_is s p)) is-p, tt))

abbrev pub pair_plain : {S P : Data} (N : Pair S P) → Plains (declared.fields (pair N))
pair_plain {S} {P} N = (LL.field_plain S.type S.plain, (LL.field_plain P.type P.plain, tt))
