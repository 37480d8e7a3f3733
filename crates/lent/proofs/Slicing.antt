-- An array of structs of plain data in a local: its first elements are lent by `&` as a slice for a lifetime, and the array comes back.
--     lends_part   the local's cell  ⊢ ⇛ the `&κ` slice of its first n elements, the lender's part, and the elements behind them
--     part_back    [†κ], the lender's part and the elements behind them  ⊢ ⇛ room for the array
-- Assumes nothing.
use mathlib.Core.Path.{◌≡◌, refl, sym}
use Prim.Native.Nat.{ℕ}
use mathlib.Core.List.{List, [], ◌∷◌, ◌++◌, map}
use lib.ListN.{length, take, drop as behind, take-append-drop}
use seplogic.Ra.Ura.{Ura}
use base.Fraction.{full_share}
use mir.Syntax.{Ty, named, ty_array}
use mir.Raw.{raw as raw_ty}
use mir.Val.{Val}
use base.Logic.{ent, sep}
use base.Fml.{Lft, Fml, fat, froom, fsep, fdead, flent, fhide}
use types.Logic.{Logic, sem}
use types.Kit.{‵, ◌⊛◌, later, ◌$◌, ◌∵◌, !, qed, move, drop, use1, use2, split, rewrite, fsplit, fjoin, fpick, fpack, feq_l, feq_i, await, updating, now as at_once, done}
use types.Tokens.{lent_back}
use types.SemTy.{cells}
use types.Share.{arr_parts}
use denote.RattleType.{RattleType}
use denote.Laws.{Is, shows}
use denote.Memory.{mem, shares, part_at, part_of, cell_at}
use denote.Array.{Array, array_val, Array-Makes, Array-Tells}
use denote.ArrayMemory.{Array-apart, Array-whole}
use denote.Slice.{ShrSlice, Room, elements_shared, shr_slice_at, slice_val}
use denote.Index.{whole_out, whole_in}
use denote.Index as index
use denote.Copied.{each_lends}
use denote.Shadow.{pure_i}
use denote.Steps.{owned, peeks}
use denote.Struct.Laws as LL
use borrow.Table.Elements.{at, cut_app, join_app}
use borrow.Rule.Array.Share.{Room-take}
use Rattle.board.proofs.Data.{Data, row, ty, val, vals}

-- the array's type, its type in MIR, and its machine value
abbrev pub all : Data → ℕ → RattleType
all L N = Array (row L) N

abbrev pub all_ty : Data → ℕ → Ty
all_ty L N = ty_array (ty L) N

abbrev pub all_val : (L : Data) → List L.type.D → Val
all_val L xs = array_val (map (λ x. val L x) xs)

module _ (L : Data) (N : ℕ) {M : Type 1} {𝓤 : Ura M} (𝓛 : Logic 𝓤) (κ : Lft) (b : ℕ) where
  -- the reference to the first elements ys
  open 𝓛 use {H, A}

  abbrev pub part_lent : List L.type.D → Fml
  part_lent ys = (ShrSlice (named 0) κ (row L)).own_val (record { ref_ptr = (b, 0); now = ys }) (slice_val (b, 0) (length ys) ∷ [])

  -- what is lent, and what is behind it
  abbrev pub lent_of : List L.type.D → Fml
  lent_of ys = index.row (row L) full_share ys b 0

  abbrev pub rest_of : List L.type.D → List L.type.D → Fml
  rest_of ys zs = cells (mem (row L)) zs b (at 0 (mem (row L)).size (length ys))

  module _ (xs : List L.type.D) (n : ℕ) where
    pub lends_part : Room (row L) N → Is (all L N) xs (all_val L xs ∷ [])
        → ent 𝓤 (H.at full_share (all_ty L N) b 0 (all_val L xs)) (H.⇛ (sep 𝓤 (sem 𝓛 (part_lent (take n xs))) (sep 𝓤 (A.lent κ (lent_of (take n xs))) (sem 𝓛 (rest_of (take n xs) (behind n xs))))))
    unfolding part_of
    lends_part room is =
        qed 𝓛 (‵ (fat full_share (all_ty L N) b 0 (all_val L xs)) ∷ []) ∵ updating ! $ use1 𝓛 (‵ (fat full_share (raw_ty (all_ty L N)) b 0 (all_val L xs))) (𝓛.laws.at_raw full_share (all_ty L N) b 0 (all_val L xs)) $
        owned ! (all L N) (Is (all L N)) (Array-Makes 𝓛 (row L) (LL.makes L.type L.plain 𝓛) N) xs (all_val L xs ∷ []) is $ move ! (1 ∷ 0 ∷ []) $ fjoin ! $
        fpack ! (List Val) (λ us. fsep (cell_at full_share (all L N).mir us b 0) ((all L N).own_val xs us)) (all_val L xs ∷ []) $
        use1 𝓛 (‵ ((arr_parts (shares (row L)) N).part full_share xs b 0)) (Array-apart 𝓛 (row L) full_share tt N xs b 0) $ fsplit ! $ feq_l ! (λ l.
        use1 𝓛 (‵ (cells (mem (row L)) xs b 0)) (whole_in 𝓛 (row L) xs b 0) $ rewrite ! 0 (λ (ys : List L.type.D). ‵ (cells (mem (row L)) ys b 0)) (sym (take-append-drop n xs)) refl $
        use1 𝓛 (‵ (cells (mem (row L)) (take n xs) b 0) ⊛ ‵ (rest_of (take n xs) (behind n xs))) (cut_app 𝓛 (mem (row L)) (take n xs) (behind n xs) b 0) $ split ! $
        use1 𝓛 (‵ (lent_of (take n xs))) (whole_out 𝓛 (row L) (take n xs) b 0) $
        use1 𝓛 (later (‵ (fhide (elements_shared (row L) (take n xs) b 0 κ)) ⊛ ‵ (flent κ (lent_of (take n xs))))) (each_lends 𝓛 (row L) (LL.copied L.type L.copies 𝓛) full_share (take n xs) b 0 κ) $ await ! tt $ split ! $ at_once ! $
        pure_i ! (shr_slice_at (row L) (record { ref_ptr = (b, 0); now = take n xs }) (slice_val (b, 0) (length (take n xs)) ∷ [])) (tt, (tt, tt)) (refl, Room-take (row L) N n xs l room) $ fjoin ! $ done !)

    pub part_back : length xs ≡ N → ent 𝓤 (sep 𝓤 (A.dead κ) (sep 𝓤 (A.lent κ (lent_of (take n xs))) (sem 𝓛 (rest_of (take n xs) (behind n xs))))) (H.⇛ (H.room (all_ty L N) b 0))
    unfolding part_of
    part_back l =
        qed 𝓛 (‵ (fdead κ) ∷ ‵ (flent κ (lent_of (take n xs))) ∷ ‵ (rest_of (take n xs) (behind n xs)) ∷ []) ∵ updating ! $ lent_back ! tt $
        use1 𝓛 (‵ (cells (mem (row L)) (take n xs) b 0)) (whole_in 𝓛 (row L) (take n xs) b 0) $ use2 𝓛 (‵ (cells (mem (row L)) (take n xs ++ behind n xs) b 0)) (join_app 𝓛 (mem (row L)) (take n xs) (behind n xs) b 0) $
        rewrite ! 0 (λ (ys : List L.type.D). ‵ (cells (mem (row L)) ys b 0)) (take-append-drop n xs) refl $ use1 𝓛 (‵ (index.row (row L) full_share xs b 0)) (whole_out 𝓛 (row L) xs b 0) $
        feq_i ! ℕ (length xs) N l $ fjoin ! $ use1 𝓛 (‵ (part_at (all L N) full_share xs b 0)) (Array-whole 𝓛 (row L) full_share N xs b 0) $ fpick ! (λ vs. fsplit ! $ move ! (1 ∷ []) $
        peeks ! (all L N) (Is (all L N)) (shows 𝓛 (all L N)) xs vs (λ is. drop ! $
        rewrite ! 0 (λ (us : List Val). ‵ (cell_at full_share (all L N).mir us b 0)) (Array-Tells (row L) (vals L) (LL.tells L.type L.laws) N xs vs is) refl $
        use1 𝓛 (‵ (fat full_share (all_ty L N) b 0 (all_val L xs))) (𝓛.laws.raw_at full_share (all_ty L N) b 0 (all_val L xs)) $
        use1 𝓛 (‵ (froom (all_ty L N) b 0)) (𝓛.laws.at_room (all_ty L N) b 0 (all_val L xs)) $ at_once ! $ done !))
