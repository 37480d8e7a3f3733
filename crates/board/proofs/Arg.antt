-- A plain parameter's type, with what the walk of a thin call asks of it.
--     Arg          the type.        word, tick       a number, and a `Tick`; another struct's lines differ only in its name
-- Assumes nothing.
use mathlib.Core.Path.{◌≡◌, refl}
use mathlib.Core.List.{[], ◌∷◌}
use seplogic.Ra.Ura.{Ura}
use lib.Dec.{T as Holds}
use mir.Syntax.{Ty, Width, ty_int}
use mir.Val.{Val, WT, has_ty, vint}
use base.Fml.{ftrue}
use types.Logic.{Logic}
use denote.RattleType.{RattleType}
use denote.Laws.{Is, Tells, Makes}
use denote.Plain.{UInt, uint_Tells, uint_Makes, uint_Lawful}
use denote.Struct.Laws as LL
use denote.Exit.{Last, left, yes}
use Rattle.rules.specs.contracts.Tick as K
use Rattle.rules.proofs.Tick.TheLaws as K'

pub record Arg : Type 2 where
  pub row : RattleType
  pub mir : Ty
  pub val : row.Denot → Val
  pub tells : Tells row (Is row) (λ x. val x ∷ [])
  pub last : (x : row.Denot) → Last (row.exit yes) x
  pub silent : (x : row.Denot) (f : Last (row.exit yes) x) → left (row.exit yes) x f ≡ ftrue
  pub typed : {M : Type 1} {𝓤 : Ura M} (𝓛 : Logic 𝓤) → (x : row.Denot) → Is row x (val x ∷ []) → Holds (has_ty mir (val x)) × WT (val x)
  pub makes : {M : Type 1} {𝓤 : Ura M} (𝓛 : Logic 𝓤) → Makes 𝓛 row (Is row)

abbrev pub word : Width → Arg
word w = record {
  row = UInt w;
  mir = ty_int w;
  val = vint w;
  tells = uint_Tells w;
  last = λ x. tt;
  silent = λ x f. refl;
  typed = λ 𝓛 x p. ((uint_Lawful 𝓛 w).typed x _ p).0;
  makes = λ 𝓛. uint_Makes 𝓛 w;
}

abbrev pub tick : Arg
tick = record {
  row = K.the_row;
  mir = K'.mir;
  val = LL.val K.the_type K'.the_laws;
  tells = LL.tells K.the_type K'.the_laws;
  last = λ x. tt;
  silent = λ x f. refl;
  typed = λ 𝓛 x p. ((LL.lawful K.the_type K'.the_laws 𝓛).typed x _ p).0;
  makes = λ 𝓛. LL.makes K.the_type K'.the_plain 𝓛;
}
