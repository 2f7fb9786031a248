-- The value of a struct that has ghost fields alone. Assumes `Logic`.
use Rattle.std.proofs.Common.{List, [], ◌∷◌, refl}
use seplogic.Ra.Ura.{Ura}
use mir.Val.{Val, vstruct, vnil}
use types.Logic.{Logic}
use types.Kit.{Goal, Step, step, Item, ‵, ◌$◌, fjoin, fpack, feq_i}
use denote.RattleType.{Valss}
use denote.Steps.{nothing}
use denote.Struct.Struct.{Struct, Shape, within}

-- at run time it has no bytes
abbrev pub bare : Val
bare = vstruct vnil

abbrev shape : Shape
shape = record { name = []; args = []; types = []; fields = [] }

-- such a value is owned without a premise
pub owns_bare : {M : Type 1} {𝓤 : Ura M} {𝓛 : Logic 𝓤} {Key : Type 0} {Γ : List (Item 𝓤)} {G : Goal 𝓤 𝓛.H} → Key → Step Key 𝓛 (‵ ((Struct shape).own_val tt (bare ∷ [])) ∷ Γ) G Γ G
owns_bare key = step (λ rest.
    nothing key $ feq_i key (List Val) (bare ∷ []) (bare ∷ []) refl $ fjoin key $ fpack key (Valss []) (within shape tt (bare ∷ [])) tt $ rest)
