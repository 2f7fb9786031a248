-- The structures of the parts that a section names, and what they say (DSP0134, 3.6).
use Rattle.std.specs.Prelude.{◌≡◌, ℕ, ◌+◌, nat_lt, if◌then◌else◌, List, length, MatchBool, Option, Some, None, option_map}
use Rattle.base_model.specs.Bytes.{number_at}
use Rattle.smbios.specs.Finding.{FindsFirst, is_wanted}
use Rattle.smbios.specs.Memory.{IsMemoryDevice}
use Rattle.smbios.specs.Structures.{Pair}
use Rattle.smbios.specs.Texts.{IsTextAt}
use Rattle.smbios.specs.declared.finding.Wanted.{Wanted}
use Rattle.smbios.specs.declared.finding.Wanted.TheVariants as wanted
use Rattle.machine_parts.specs.Numbers.{card_handle, module_handle, slot_number}
use Rattle.machine_parts.specs.declared.arrays.MemoryArray.{MemoryArray}
use Rattle.machine_parts.specs.declared.numbers.Naming.{Naming}
use Rattle.machine_parts.specs.declared.parts.Card.{Card}
use Rattle.machine_parts.specs.declared.parts.Card.TheVariants as cards
use Rattle.machine_parts.specs.declared.parts.Module.{Module}
use Rattle.machine_parts.specs.declared.parts.Module.TheVariants as modules
use Rattle.machine_parts.specs.declared.parts.Slot.{Slot}
use Rattle.machine_parts.specs.declared.parts.Slot.TheVariants as slots

-- the first structure that is wanted, where the number is one that 16 bits can have
abbrev pub Finds : Wanted → (number : ℕ) → List ℕ → Option Pair → Type 0
Finds asked number table found = MatchBool (nat_lt number 65536) (FindsFirst (is_wanted asked) table found) (found ≡ None)

-- the first structure of a type with a handle, and the first system slot of a number
abbrev pub FindsHandle : (kind number : ℕ) → List ℕ → Option Pair → Type 0
FindsHandle kind number table found = Finds (wanted.Handle kind number) number table found

abbrev pub FindsSlot : (number : ℕ) → List ℕ → Option Pair → Type 0
FindsSlot number table found = Finds (wanted.Slot number) number table found

-- the number in so many bytes of the formatted area, where they are there
abbrev pub number_told : Pair → (at count : ℕ) → Option ℕ
number_told one at count = if nat_lt (length one.formatted) (at + count) then None else Some (number_at one.formatted at count)

pub record IsMemoryArray (one : Pair) (array : MemoryArray) : Type 0 where
  pub location : array.location ≡ number_told one 4 1
  pub devices : array.devices ≡ number_told one 13 2

-- a number that the section has, and a structure of the table that has it
pub record IsFound (told : Option ℕ) (Of : ℕ → Option Pair → Type 0) (Says : Pair → Type 0) : Type 0 where
  pub number : ℕ
  pub one : Pair
  pub has : told ≡ Some number
  pub stands : Of number (Some one)
  pub says : Says one

-- the module of a section: the memory device (type 17) with exactly that handle
abbrev pub IsModule : List ℕ → Naming → List ℕ → Module → Type 0
IsModule table naming body modules.Unnamed = module_handle naming body ≡ None
IsModule table naming body (modules.Absent number) = (module_handle naming body ≡ Some number) × FindsHandle 17 number table None
IsModule table naming body (modules.Found device) =
    IsFound (module_handle naming body) (λ number found. FindsHandle 17 number table found) (λ one. IsMemoryDevice one device)

-- its card: the memory array (type 16) with exactly that handle
abbrev pub IsCard : List ℕ → Naming → List ℕ → Card → Type 0
IsCard table naming body cards.Unnamed = card_handle naming body ≡ None
IsCard table naming body (cards.Absent number) = (card_handle naming body ≡ Some number) × FindsHandle 16 number table None
IsCard table naming body (cards.Found array) =
    IsFound (card_handle naming body) (λ number found. FindsHandle 16 number table found) (λ one. IsMemoryArray one array)

-- the slot of a section: the system slot (type 9) of exactly that number, and its designation
abbrev pub IsSlot : List ℕ → Naming → List ℕ → Slot → Type 0
IsSlot table naming body slots.Unnamed = slot_number naming body ≡ None
IsSlot table naming body (slots.Absent number) = (slot_number naming body ≡ Some number) × FindsSlot number table None
IsSlot table naming body (slots.Found label) =
    IsFound (slot_number naming body) (λ number found. FindsSlot number table found) (λ one. IsTextAt one 4 (option_map (λ it. it.now) label))
