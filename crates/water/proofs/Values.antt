-- The machine values of a record and of a reading have the types of the locals that hold them.
use mathlib.Core.List.{[], ◌∷◌}
use seplogic.Ra.Ura.{Ura}
use lib.Dec.{T as Holds}
use mir.Val.{Val, WT, has_ty}
use types.Logic.{Logic}
use denote.Laws.{Is}
use denote.Struct.Laws as SL
use denote.Enum.Laws as EL
use Rattle.water.specs.declared.Water.{Water}
use Rattle.water.specs.declared.Flow.{Flow}
use Rattle.water.specs.contracts.Water as T
use Rattle.water.proofs.Water.TheLaws as T'
use Rattle.water.specs.contracts.Flow as F
use Rattle.water.proofs.Flow.TheLaws as F'

module _ {M : Type 1} {𝓤 : Ura M} (𝓛 : Logic 𝓤) where
  pub water_typed : (y : Water) (v : Val) → Is T.the_row y (v ∷ []) → Holds (has_ty T'.mir v) × WT v
  water_typed y v is = ((SL.lawful T.the_type T'.the_laws 𝓛).typed y _ is).0

  pub flow_typed : (n : Flow) (v : Val) → Is F.the_row n (v ∷ []) → Holds (has_ty F'.mir v) × WT v
  flow_typed n v is = ((EL.lawful F.the_type F'.the_laws 𝓛 tt).typed n _ is).0
