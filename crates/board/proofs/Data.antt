-- A declared struct of plain data, with what a walk asks of it. A walk is over these, so it names no field of any struct and computes with none.
--     Data         the struct.        row, ty, val       its row, its type in MIR, and its machine value
--     Pair         a struct of a state and an answer: what a step gives.        pair       the same as a declared type
-- Assumes nothing.
use mathlib.Core.Path.{◌≡◌, refl}
use mathlib.Core.List.{List, [], ◌∷◌}
use mir.Syntax.{Ty, Sym}
use mir.Val.{Val}
use denote.RattleType.{RattleType, Denots}
use denote.Memory.{lone}
use denote.Struct.Struct.{Plains}
use denote.Struct.Cover.{Cover}
use denote.Struct.Field.{rows}
use denote.Struct.Values.{Values}
use denote.Struct.Declared.{Declared, fields, field}
use denote.Struct.Declared as declared
use denote.Struct.Laws as LL

pub record Data : Type 2 where
  pub type : Declared
  pub laws : LL.Laws type
  pub plain : Plains (fields type)
  pub copies : LL.Copyables type.parts
  pub lowers : LL.Lowered type

abbrev pub row : Data → RattleType
row T = declared.row T.type

abbrev pub ty : Data → Ty
ty T = lone (row T).mir

abbrev pub val : (T : Data) → T.type.D → Val
val T = LL.val T.type T.laws

abbrev pub vals : (T : Data) → T.type.D → List Val
vals T = LL.vals T.type T.laws

pub record Pair (S P : Data) : Type 2 where
  pub name : Sym
  pub D : Type 0
  pub state : D → S.type.D
  pub answer : D → P.type.D
  pub one : (x y : D) → ◌≡◌ {A = Denots (rows (field S.type ∷ field P.type ∷ []))} (S.type.to (state x), (P.type.to (answer x), tt)) (S.type.to (state y), (P.type.to (answer y), tt)) → x ≡ y
  pub cover : Cover D (Values (field S.type ∷ field P.type ∷ [])) (λ d. (state d, (answer d, tt)))
  pub propositions : (v : Values (field S.type ∷ field P.type ∷ [])) → IsProp (cover.Ghost v)

module _ {S P : Data} (N : Pair S P) where
  abbrev pub pair : Declared
  pair = record { name = N.name; args = []; types = []; parts = field S.type ∷ field P.type ∷ []; D = N.D; to = λ d. (S.type.to (N.state d), (P.type.to (N.answer d), tt)); to_one = N.one; as_values = λ d. (N.state d, (N.answer d, tt)); to_is = λ d. refl; cover = N.cover; propositions = N.propositions }

  abbrev pub pair_laws : LL.Laws pair
  pair_laws = (LL.field_laws S.type S.laws S.lowers, (LL.field_laws P.type P.laws P.lowers, tt))

  abbrev pub pair_row : RattleType
  pair_row = declared.row pair

  abbrev pub pair_ty : Ty
  pair_ty = lone pair_row.mir

  abbrev pub pair_vals : N.D → List Val
  pair_vals = LL.vals pair pair_laws
