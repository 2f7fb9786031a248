-- Whether an item has a fault, and where the first one stands.
use Rattle.std.specs.Prelude.{◌≡◌, ℕ, Bool, true, false, List, length, Some}
use Rattle.item_parts.specs.declared.faults.Fault.{Fault as Told}
use Rattle.item_parts.specs.declared.faults.ItemError.{ItemError}
use Rattle.item_parts.specs.declared.items.Item.{Item}
use Rattle.item_parts.specs.declared.parts.Part.{Part}
use Rattle.item_parts.specs.Faults.{fault_of}
use Rattle.item_parts.specs.Items.{PartsOf, Begins, IsFault}

-- the bytes begin with an item that is as its standard says
abbrev pub IsSound : Item → List ℕ → Type 0
IsSound item bytes = (parts : List Part) × Begins (PartsOf item) parts bytes

-- a fault is found exactly where they do not
abbrev pub IsJudged : Item → List ℕ → Bool → Type 0
IsJudged item bytes true = ¬ IsSound item bytes
IsJudged item bytes false = IsSound item bytes

-- the first fault that the item's decoder tells stands at this place
pub record IsPlace (item : Item) (bytes : List ℕ) (at : ℕ) : Type 0 where
  pub error : ItemError
  pub told : IsFault item bytes error
  pub fault : Told
  pub first : fault_of error (length bytes) ≡ Some fault
  pub stands : at ≡ fault.at
