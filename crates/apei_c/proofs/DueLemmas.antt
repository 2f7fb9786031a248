-- The room that the bytes of a change need.
use Rattle.std.proofs.Common.{◌≡◌, ℕ, ◌<◌, List, length, false, refl, inl, inr, arith}
use Rattle.erst_port.specs.declared.due.Kind.{Kind}
use Rattle.erst_port.specs.declared.due.Kind.TheVariants.{Program, Erase}
use Rattle.erst_port.specs.PortState.{PortState}
use Rattle.erst_port.specs.Changes.{IsDueOn}
use Rattle.apei_c.specs.Devices.{HandsDue}

-- a buffer that has no room for them has fewer than 256 bytes
pub has_few : (port : PortState) (kind : Kind) (at : ℕ) (bytes before after : List ℕ) → IsDueOn port kind at bytes → HandsDue kind bytes before false after
    → length before < 256
has_few port Program at bytes before after due hands = elim hands [
  | inl has ↦ absurd (let is = has.0 in cc)
  | inr lacks ↦ let page = (due.3.page refl).1 in omega (arith, lacks.1, page)
]
has_few port Erase at bytes before after due hands = absurd (let is = hands.0 in cc)
