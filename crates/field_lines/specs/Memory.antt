-- Memory errors (UEFI 2.8, N.2.5 and N.2.6).
use Rattle.std.specs.Prelude.{ℕ, List, [], ◌∷◌, Some, codes}
use Rattle.field_lines.specs.Fields.{Field, bits, decimal_number, hexadecimal, one_of, field}
use Rattle.field_lines.specs.Layouts.{Structure, structure}

-- the types of errors in an error status (UEFI 2.8, N.2.13)
abbrev pub error_types : List (ℕ × List ℕ)
error_types =
    (1, codes "error within the component")
    ∷ (16, codes "error in the bus")
    ∷ (4, codes "storage error in memory")
    ∷ (5, codes "storage error in the TLB")
    ∷ (6, codes "storage error in the cache")
    ∷ (7, codes "error in functional units")
    ∷ (8, codes "component failed self test")
    ∷ (9, codes "overflow of an internal queue")
    ∷ (17, codes "virtual address not found")
    ∷ (18, codes "improper access")
    ∷ (19, codes "access to an unmapped address")
    ∷ (20, codes "loss of lockstep")
    ∷ (21, codes "response without a request")
    ∷ (22, codes "bus parity error")
    ∷ (23, codes "protocol error")
    ∷ (24, codes "path error")
    ∷ (25, codes "bus operation timeout")
    ∷ (26, codes "read of poisoned data")
    ∷ []

-- the types of memory errors (UEFI 2.8, N.2.5)
abbrev pub memory_errors : List (ℕ × List ℕ)
memory_errors =
    (0, codes "unknown")
    ∷ (1, codes "no error")
    ∷ (2, codes "single-bit ECC")
    ∷ (3, codes "multi-bit ECC")
    ∷ (4, codes "single-symbol chipkill ECC")
    ∷ (5, codes "multi-symbol chipkill ECC")
    ∷ (6, codes "master abort")
    ∷ (7, codes "target abort")
    ∷ (8, codes "parity error")
    ∷ (9, codes "watchdog timeout")
    ∷ (10, codes "invalid address")
    ∷ (11, codes "mirror broken")
    ∷ (12, codes "memory sparing")
    ∷ (13, codes "scrub corrected error")
    ∷ (14, codes "scrub uncorrected error")
    ∷ (15, codes "physical memory map-out event")
    ∷ []

-- a memory error (UEFI 2.8, N.2.5)
abbrev pub memory_error_fields : List Field
memory_error_fields =
    field 8 8 (Some 0) (codes "error status") hexadecimal
    ∷ field 8 8 (Some 0) (codes "error status type") (bits 8 8 error_types)
    ∷ field 16 8 (Some 1) (codes "physical address") hexadecimal
    ∷ field 24 8 (Some 2) (codes "physical address mask") hexadecimal
    ∷ field 32 2 (Some 3) (codes "node") decimal_number
    ∷ field 34 2 (Some 4) (codes "card") decimal_number
    ∷ field 36 2 (Some 5) (codes "module") decimal_number
    ∷ field 38 2 (Some 6) (codes "bank") decimal_number
    ∷ field 39 1 (Some 19) (codes "bank group") decimal_number
    ∷ field 38 1 (Some 20) (codes "bank address") decimal_number
    ∷ field 40 2 (Some 7) (codes "device") decimal_number
    ∷ field 42 2 (Some 8) (codes "row") decimal_number
    ∷ field 44 2 (Some 9) (codes "column") decimal_number
    ∷ field 46 2 (Some 10) (codes "bit position") decimal_number
    ∷ field 48 8 (Some 11) (codes "requestor ID") hexadecimal
    ∷ field 56 8 (Some 12) (codes "responder ID") hexadecimal
    ∷ field 64 8 (Some 13) (codes "target ID") hexadecimal
    ∷ field 72 1 (Some 14) (codes "memory error type") (one_of memory_errors)
    ∷ field 73 1 (Some 18) (codes "extended row") (bits 0 2 [])
    ∷ field 73 1 (Some 21) (codes "chip identification") (bits 5 3 [])
    ∷ field 74 2 (Some 15) (codes "rank number") decimal_number
    ∷ field 76 2 (Some 16) (codes "card handle") hexadecimal
    ∷ field 78 2 (Some 17) (codes "module handle") hexadecimal
    ∷ []

unfoldable pub memory_error : Structure
memory_error = structure 0 memory_error_fields 0 []

-- a memory error, version 2 (UEFI 2.8, N.2.6)
abbrev pub memory_error_2_fields : List Field
memory_error_2_fields =
    field 8 8 (Some 0) (codes "error status") hexadecimal
    ∷ field 8 8 (Some 0) (codes "error status type") (bits 8 8 error_types)
    ∷ field 16 8 (Some 1) (codes "physical address") hexadecimal
    ∷ field 24 8 (Some 2) (codes "physical address mask") hexadecimal
    ∷ field 32 2 (Some 3) (codes "node") decimal_number
    ∷ field 34 2 (Some 4) (codes "card") decimal_number
    ∷ field 36 2 (Some 5) (codes "module") decimal_number
    ∷ field 38 2 (Some 6) (codes "bank") decimal_number
    ∷ field 39 1 (Some 20) (codes "bank group") decimal_number
    ∷ field 38 1 (Some 21) (codes "bank address") decimal_number
    ∷ field 40 4 (Some 7) (codes "device") decimal_number
    ∷ field 44 4 (Some 8) (codes "row") decimal_number
    ∷ field 48 4 (Some 9) (codes "column") decimal_number
    ∷ field 52 4 (Some 10) (codes "rank") decimal_number
    ∷ field 56 4 (Some 11) (codes "bit position") decimal_number
    ∷ field 60 1 (Some 12) (codes "chip identification") decimal_number
    ∷ field 61 1 (Some 13) (codes "memory error type") (one_of memory_errors)
    ∷ field 62 1 (Some 14) (codes "status") decimal_number
    ∷ field 64 8 (Some 15) (codes "requestor ID") hexadecimal
    ∷ field 72 8 (Some 16) (codes "responder ID") hexadecimal
    ∷ field 80 8 (Some 17) (codes "target ID") hexadecimal
    ∷ field 88 4 (Some 18) (codes "card handle") hexadecimal
    ∷ field 92 4 (Some 19) (codes "module handle") hexadecimal
    ∷ []

unfoldable pub memory_error_2 : Structure
memory_error_2 = structure 0 memory_error_2_fields 0 []
