-- Which structure of a table is found.
use Rattle.std.specs.Prelude.{◌≡◌, ℕ, Bool, true, false, ◌==◌, ◌&&◌, List, ◌++◌, map, Option, Some, None, option_map, ◌⊎◌}
use Rattle.base_model.specs.Bytes.{joined}
use Rattle.smbios.specs.Lists.{Each}
use Rattle.smbios.specs.declared.structures.Structure.{Structure}
use Rattle.smbios.specs.declared.finding.Wanted.{Wanted}
use Rattle.smbios.specs.declared.finding.Wanted.TheVariants.{Handle, Slot}
use Rattle.smbios.specs.Structures.{Pair, pair, bytes_of, kind_of, has_number, IsStructure, BeginsNone}

-- it has a type and a handle, or is the system slot of a number
abbrev pub is_wanted : Wanted → Pair → Bool
is_wanted (Handle kind handle) one = (kind_of one == kind) && has_number one 2 handle
is_wanted (Slot number) one = (kind_of one == 9) && has_number one 9 number

abbrev pub ends_table : Pair → Bool
ends_table one = kind_of one == 127

-- a structure that is passed over
pub record IsPassed (wanted : Pair → Bool) (one : Pair) : Type 0 where
  pub is : IsStructure one
  pub other : wanted one ≡ false
  pub further : ends_table one ≡ false

-- these are passed over from the first byte on, one after another, and then the rest stands
pub record Passes (wanted : Pair → Bool) (table : List ℕ) (passed : List Pair) (rest : List ℕ) : Type 0 where
  pub each : Each (IsPassed wanted) passed
  pub all : table ≡ joined (map bytes_of passed) ++ rest

-- the one that ends the table stands first, and is not wanted
pub record Ends (wanted : Pair → Bool) (rest : List ℕ) : Type 0 where
  pub one : Pair
  pub after : List ℕ
  pub is : IsStructure one
  pub stands : rest ≡ bytes_of one ++ after
  pub other : wanted one ≡ false
  pub ends : ends_table one ≡ true

-- the first one that is wanted, or none up to the end
abbrev pub FindsFirst : (Pair → Bool) → List ℕ → Option Pair → Type 0
FindsFirst wanted table (Some one) =
    (passed : List Pair) × (after : List ℕ) × Passes wanted table passed (bytes_of one ++ after) × IsStructure one × (wanted one ≡ true)
FindsFirst wanted table None =
    (passed : List Pair) × (rest : List ℕ) × Passes wanted table passed rest × (BeginsNone rest ⊎ Ends wanted rest)

-- a structure that was answered
abbrev pub pair_in : Option Structure → Option Pair
pair_in result = option_map (λ it. pair it.formatted.now it.strings.now) result
