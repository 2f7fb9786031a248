-- The numbers by which a section names a part of the machine (UEFI 2.8, sections N.2.5 to N.2.7).
use Rattle.std.specs.Prelude.{ℕ, ◌+◌, ◌/◌, ◌%◌, ◌^◌, ◌==◌, nat_lt, Bool, not, if◌then◌else◌, List, length, Option, Some, None, option_map}
use Rattle.base_model.specs.Bytes.{number_at}
use Rattle.machine_parts.specs.declared.numbers.Naming.{Naming}
use Rattle.machine_parts.specs.declared.numbers.Naming.TheVariants.{Memory, Memory2, PciExpress}

-- a validation bit, which stands in the first 8 bytes
abbrev pub is_valid : List ℕ → (bit : ℕ) → Bool
is_valid body bit = number_at body 0 8 / 2 ^ bit % 2 == 1

-- the number in so many bytes at a place: they are there, and its validation bit is set
abbrev pub number_in : List ℕ → (bit at width : ℕ) → Option ℕ
number_in body bit at width =
    if nat_lt (length body) (at + width) then None
    else if not (is_valid body bit) then None
    else Some (number_at body at width)

abbrev pub number_2 : List ℕ → (bit at : ℕ) → Option ℕ
number_2 body bit at = number_in body bit at 2

abbrev pub number_4 : List ℕ → (bit at : ℕ) → Option ℕ
number_4 body bit at = number_in body bit at 4

abbrev pub module_handle : Naming → List ℕ → Option ℕ
module_handle Memory body = number_2 body 17 78
module_handle Memory2 body = number_4 body 19 92
module_handle PciExpress body = None

abbrev pub card_handle : Naming → List ℕ → Option ℕ
card_handle Memory body = number_2 body 16 76
card_handle Memory2 body = number_4 body 18 88
card_handle PciExpress body = None

-- the three low bits of the slot's field are reserved
abbrev pub slot_number : Naming → List ℕ → Option ℕ
slot_number PciExpress body = option_map (λ (number : ℕ). number / 8) (number_2 body 3 37)
slot_number Memory body = None
slot_number Memory2 body = None
