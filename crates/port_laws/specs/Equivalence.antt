-- Two ports that are equivalent: all that is seen of them is the same, but for the places of their records, what their flashes count and were, and
-- whether their stores have yet to look at their slots.
use Rattle.std.specs.Prelude.{◌≡◌, false}
use Rattle.erst_commands.specs.Equivalence.{DeviceOutline, device_outline, FailsNothing}
use Rattle.erst_port.specs.PortState.{PortState, IsMade}

-- an outline without the changes of the flash so far, and the second copies that the store has yet to end
abbrev pub bare : DeviceOutline → DeviceOutline
bare o = record o { store = record o.store { steps = 0; in_doubt = false; copies = 0 } }

pub record EquivalentPorts (one other : PortState) : Type 0 where
  pub device : bare (device_outline one.device) ≡ bare (device_outline other.device)
  pub range : one.range ≡ other.range
  pub table : one.table ≡ other.table
  pub addresses : one.addresses ≡ other.addresses

-- no fault of a port's flash was counted on the way
abbrev pub FailedNothing : PortState → PortState → Type 0
FailedNothing first last = FailsNothing first.device.store last.device.store

-- two ports answer this the same and are equivalent behind it: where they are equivalent, their mediums have made every change, and their
-- flashes fail nothing
abbrev pub AnswerAlike : {A : Type 0} → (PortState → A → PortState → Type 0) → (one other : PortState) → Type 0
AnswerAlike {A} Does one other =
    EquivalentPorts one other → IsMade one → IsMade other → (answer also : A) (one_after other_after : PortState) → Does one answer one_after → FailedNothing one one_after
    → Does other also other_after → FailedNothing other other_after → (answer ≡ also) × EquivalentPorts one_after other_after
