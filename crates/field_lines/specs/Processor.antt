-- A generic processor error (UEFI 2.8, N.2.4.1).
use Rattle.std.specs.Prelude.{ℕ, List, [], ◌∷◌, Some, codes}
use Rattle.field_lines.specs.Fields.{Field, decimal_number, flags, hexadecimal, one_of, field, text}
use Rattle.field_lines.specs.Layouts.{Structure, structure}

-- the types of processors (UEFI 2.8, N.2.4.1)
abbrev pub processor_types : List (ℕ × List ℕ)
processor_types =
    (0, codes "IA32/X64")
    ∷ (1, codes "IA64")
    ∷ (2, codes "ARM")
    ∷ []

-- the instruction sets (UEFI 2.8, N.2.4.1)
abbrev pub instruction_sets : List (ℕ × List ℕ)
instruction_sets =
    (0, codes "IA32")
    ∷ (1, codes "IA64")
    ∷ (2, codes "X64")
    ∷ (3, codes "ARM A32/T32")
    ∷ (4, codes "ARM A64")
    ∷ []

-- the types of processor errors (UEFI 2.8, N.2.4.1)
abbrev pub processor_errors : List (ℕ × List ℕ)
processor_errors =
    (0, codes "cache error")
    ∷ (1, codes "TLB error")
    ∷ (2, codes "bus error")
    ∷ (3, codes "micro-architectural error")
    ∷ []

-- the operations (UEFI 2.8, N.2.4.1)
abbrev pub processor_operations : List (ℕ × List ℕ)
processor_operations =
    (0, codes "unknown or generic")
    ∷ (1, codes "data read")
    ∷ (2, codes "data write")
    ∷ (3, codes "instruction execution")
    ∷ []

-- the flags of a processor error (UEFI 2.8, N.2.4.1)
abbrev pub processor_flags : List (ℕ × List ℕ)
processor_flags =
    (0, codes "restartable")
    ∷ (1, codes "precise IP")
    ∷ (2, codes "overflow")
    ∷ (3, codes "corrected")
    ∷ []

-- a generic processor error (UEFI 2.8, N.2.4.1)
abbrev pub processor_generic_fields : List Field
processor_generic_fields =
    field 8 1 (Some 0) (codes "processor type") (one_of processor_types)
    ∷ field 9 1 (Some 1) (codes "processor ISA") (one_of instruction_sets)
    ∷ field 10 1 (Some 2) (codes "processor error type") (flags processor_errors)
    ∷ field 11 1 (Some 3) (codes "operation") (one_of processor_operations)
    ∷ field 12 1 (Some 4) (codes "flags") (flags processor_flags)
    ∷ field 13 1 (Some 5) (codes "level") decimal_number
    ∷ field 16 8 (Some 6) (codes "CPU version info") hexadecimal
    ∷ field 24 128 (Some 7) (codes "CPU brand string") text
    ∷ field 152 8 (Some 8) (codes "processor ID") hexadecimal
    ∷ field 160 8 (Some 9) (codes "target address") hexadecimal
    ∷ field 168 8 (Some 10) (codes "requestor identifier") hexadecimal
    ∷ field 176 8 (Some 11) (codes "responder identifier") hexadecimal
    ∷ field 184 8 (Some 12) (codes "instruction IP") hexadecimal
    ∷ []

unfoldable pub processor_generic : Structure
processor_generic = structure 0 processor_generic_fields 0 []
