-- What C is told of items.
use Rattle.std.specs.Prelude.{◌≡◌, ◌⊎◌, ℕ, List, length, slice_get, Option, Some, None}
use Rattle.item_parts.specs.declared.items.Item.{Item}
use Rattle.item_parts.specs.declared.items.Item.TheVariants.{Hest}
use Rattle.item_parts.specs.declared.parts.Part.{Part}
use Rattle.item_parts.specs.declared.faults.Fault.{Fault}
use Rattle.item_parts.specs.declared.faults.ItemError.{ItemError}
use Rattle.item_parts.specs.Items.{PartsOf, Begins, Counts, Tells, IsFault}
use Rattle.item_parts.specs.Faults.{fault_of, number_of_kind}
use Rattle.apei_c.specs.declared.status.Status.{Status}
use Rattle.apei_c.specs.declared.status.Status.TheVariants.{Done, Nothing, Memory, Bad}
use Rattle.apei_c.specs.declared.structs.ItemFault.{ItemFault}
use Rattle.apei_c.specs.declared.structs.ItemPart.{ItemPart}

abbrev pub item_fault : Fault → ItemFault
item_fault fault = record { offset = fault.at; kind = number_of_kind fault.kind; reserved = 0 }

abbrev pub no_item : ItemFault
no_item = record { offset = 0; kind = 0; reserved = 0 }

abbrev pub item_part : Part → ItemPart
item_part part = record { offset = part.at; length = part.len; body = part.body; body_length = part.body_len; kind = part.kind; reserved = 0 }

-- the decoder's error, which is a fault
abbrev pub HasFault : Item → List ℕ → Fault → Type 0
HasFault item bytes fault = (error : ItemError) × IsFault item bytes error × (fault_of error (length bytes) ≡ Some fault)

-- the decoder's error, which is no fault but want of memory
abbrev pub LacksMemory : Item → List ℕ → Type 0
LacksMemory item bytes = (error : ItemError) × IsFault item bytes error × (fault_of error (length bytes) ≡ None)

-- what the caller is told of a check: the number of parts, and the fault
pub record ToldCheck : Type 0 where
  pub parts : ℕ
  pub fault : ItemFault

abbrev pub told_check : (parts : ℕ) → ItemFault → ToldCheck
told_check parts fault = record { parts = parts; fault = fault }

-- the answer of a check
abbrev pub ChecksItem : Option Item → List ℕ → ToldCheck → Status → ToldCheck → Type 0
ChecksItem None bytes old status new = (status ≡ Bad) × (new.parts ≡ 0) × (new.fault ≡ no_item)
ChecksItem (Some item) bytes old status new =
    ((status ≡ Done) × Counts (PartsOf item) bytes new.parts × (new.fault ≡ old.fault))
    ⊎ ((status ≡ Bad) × ((found : Fault) × HasFault item bytes found × (new.fault ≡ item_fault found)) × (new.parts ≡ 0))
    ⊎ ((status ≡ Memory) × LacksMemory item bytes × (new.parts ≡ old.parts) × (new.fault ≡ old.fault))

-- an item that is well is found, but where a Hardware Error Source Table had no memory
abbrev pub FindsItem : Option Item → List ℕ → Status → ℕ → Type 0
FindsItem None bytes status count = Unit {0}
FindsItem (Some item) bytes status count =
    (parts : List Part) → Begins (PartsOf item) parts bytes → ((status ≡ Done) × (count ≡ length parts)) ⊎ ((status ≡ Memory) × (item ≡ Hest))

-- the answer to a question for a part
abbrev pub TellsPart : Option Item → List ℕ → (index : ℕ) → ItemPart → Status → ItemPart → Type 0
TellsPart None bytes index part status after = (status ≡ Bad) × (after ≡ part)
TellsPart (Some item) bytes index part status after =
    ((status ≡ Done) × ((found : Part) × Tells (PartsOf item) bytes index (Some found) × (after ≡ item_part found)))
    ⊎ ((status ≡ Nothing) × Tells (PartsOf item) bytes index None × (after ≡ part))
    ⊎ ((status ≡ Bad) × ((found : Fault) × HasFault item bytes found) × (after ≡ part))
    ⊎ ((status ≡ Memory) × LacksMemory item bytes × (after ≡ part))

abbrev pub IsPart : Option Part → Status → ItemPart → Type 0
IsPart (Some found) status after = (status ≡ Done) × (after ≡ item_part found)
IsPart None status after = status ≡ Nothing

-- a part of an item that is well is found, but where a Hardware Error Source Table had no memory
abbrev pub FindsPart : Option Item → List ℕ → (index : ℕ) → Status → ItemPart → Type 0
FindsPart None bytes index status after = Unit {0}
FindsPart (Some item) bytes index status after =
    (parts : List Part) → Begins (PartsOf item) parts bytes → IsPart (slice_get parts index) status after ⊎ ((status ≡ Memory) × (item ≡ Hest))
