-- Which registers Linux 6.12 refuses: apei_check_gar and apei_map_generic_address of drivers/acpi/apei/apei-base.c, and what the second one
-- calls for a register in memory, acpi_os_map_generic_address of drivers/acpi/osl.c and ioremap.
use Rattle.std.specs.Prelude.{ℕ, ◌+◌, ◌%◌, ◌^◌, ◌==◌, ◌&&◌, ◌||◌, nat_le, nat_lt, not, Bool, if◌then◌else◌, List, Option, Some, None, option_map}
use Rattle.base_model.specs.Bytes.{number_at}
use Rattle.linux_checks.specs.declared.reasons.Reason.{Reason}
use Rattle.linux_checks.specs.declared.reasons.Reason.TheVariants.{NoAddress, AccessSize, TooWide, OtherSpace, NoBits, TooHigh}
use Rattle.linux_checks.specs.declared.reasons.Refusal.{Refusal}
use Rattle.linux_checks.specs.Reasons.{refusal}

-- the register at a place: a Generic Address Structure (ACPI 6.4, section 5.2.3.2)
abbrev pub space_at : List ℕ → ℕ → ℕ
space_at bytes at = number_at bytes at 1

abbrev pub width_at : List ℕ → ℕ → ℕ
width_at bytes at = number_at bytes (at + 1) 1

abbrev pub offset_at : List ℕ → ℕ → ℕ
offset_at bytes at = number_at bytes (at + 2) 1

abbrev pub access_at : List ℕ → ℕ → ℕ
access_at bytes at = number_at bytes (at + 3) 1

abbrev pub address_at : List ℕ → ℕ → ℕ
address_at bytes at = number_at bytes (at + 4) 8

-- the bits of an access, by its code from 1 to 4
abbrev pub access_bits : (code : ℕ) → ℕ
access_bits code = if code == 1 then 8 else if code == 2 then 16 else if code == 3 then 32 else 64

-- an aligned register of so many bits is accessed as a whole, whatever the access size says
abbrev pub is_whole : (width offset address bits size : ℕ) → Bool
is_whole width offset address bits size = (width == bits) && (offset == 0) && (address % size == 0)

abbrev pub fits : (width offset access address : ℕ) → Bool
fits width offset access address =
    nat_le (width + offset) (access_bits access) || (is_whole width offset address 32 4 || is_whole width offset address 64 8)

-- no processor of x86-64 or ARM64 has an address of more bits
abbrev pub is_too_high : (address : ℕ) → Bool
is_too_high address = nat_le (2 ^ 52) address

abbrev pub mapping_reason : (width address : ℕ) → Option Reason
mapping_reason width address = if width == 0 then Some NoBits else if is_too_high address then Some TooHigh else None

abbrev pub register_reason : (space width offset access address : ℕ) → Option Reason
register_reason space width offset access address =
    if address == 0 then Some NoAddress
    else if access == 0 || nat_lt 4 access then Some AccessSize
    else if not (fits width offset access address) then Some TooWide
    else if nat_lt 1 space then Some OtherSpace
    else if space == 1 then None
    else mapping_reason width address

abbrev pub register_refusal : List ℕ → (at : ℕ) → Option Refusal
register_refusal bytes at =
    option_map (λ (reason : Reason). refusal at reason)
    (register_reason (space_at bytes at) (width_at bytes at) (offset_at bytes at) (access_at bytes at) (address_at bytes at))
