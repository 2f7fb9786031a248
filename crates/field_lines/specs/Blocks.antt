-- Error status blocks and their data entries (ACPI 6.4, 18.3.2.7.1).
use Rattle.std.specs.Prelude.{ℕ, List, [], ◌∷◌, Some, None, codes}
use Rattle.field_lines.specs.Fields.{Field, bits, decimal_number, flags, guid, hexadecimal, one_of, field, stamp, text}
use Rattle.field_lines.specs.Layouts.{Structure, structure}
use Rattle.field_lines.specs.Records.{section_flags}

-- the bits of a block status (ACPI 6.4, 18.3.2.7.1)
abbrev pub block_statuses : List (ℕ × List ℕ)
block_statuses =
    (0, codes "uncorrectable error")
    ∷ (1, codes "correctable error")
    ∷ (2, codes "multiple uncorrectable errors")
    ∷ (3, codes "multiple correctable errors")
    ∷ []

-- the severities of status blocks (ACPI 6.4, 18.3.2.7.1)
abbrev pub block_severities : List (ℕ × List ℕ)
block_severities =
    (0, codes "recoverable")
    ∷ (1, codes "fatal")
    ∷ (2, codes "corrected")
    ∷ (3, codes "none")
    ∷ []

-- the validation bits of a data entry (ACPI 6.4, 18.3.2.7.1)
abbrev pub entry_validity : List (ℕ × List ℕ)
entry_validity =
    (0, codes "FRU ID")
    ∷ (1, codes "FRU text")
    ∷ (2, codes "timestamp")
    ∷ []

-- a generic error status block (ACPI 6.4, 18.3.2.7.1)
abbrev pub block_status_fields : List Field
block_status_fields =
    field 0 4 None (codes "block status") (flags block_statuses)
    ∷ field 0 4 None (codes "error data entry count") (bits 4 10 [])
    ∷ field 4 4 None (codes "raw data offset") decimal_number
    ∷ field 8 4 None (codes "raw data length") decimal_number
    ∷ field 12 4 None (codes "data length") decimal_number
    ∷ field 16 4 None (codes "error severity") (one_of block_severities)
    ∷ []

abbrev pub block_status : Structure
block_status = structure 0 block_status_fields 0 []

-- a generic error data entry of a revision below 0x300 (ACPI 6.4, 18.3.2.7.1)
abbrev pub short_data_entry_fields : List Field
short_data_entry_fields =
    field 0 16 None (codes "section type") guid
    ∷ field 16 4 None (codes "error severity") (one_of block_severities)
    ∷ field 20 2 None (codes "revision") hexadecimal
    ∷ field 22 1 None (codes "validation bits") (flags entry_validity)
    ∷ field 23 1 None (codes "flags") (flags section_flags)
    ∷ field 24 4 None (codes "error data length") decimal_number
    ∷ field 28 16 (Some 0) (codes "FRU ID") guid
    ∷ field 44 20 (Some 1) (codes "FRU text") text
    ∷ []

abbrev pub short_data_entry : Structure
short_data_entry = structure 22 short_data_entry_fields 0 []

-- one from revision 0x300 on, with a time
abbrev pub long_data_entry_fields : List Field
long_data_entry_fields =
    field 0 16 None (codes "section type") guid
    ∷ field 16 4 None (codes "error severity") (one_of block_severities)
    ∷ field 20 2 None (codes "revision") hexadecimal
    ∷ field 22 1 None (codes "validation bits") (flags entry_validity)
    ∷ field 23 1 None (codes "flags") (flags section_flags)
    ∷ field 24 4 None (codes "error data length") decimal_number
    ∷ field 28 16 (Some 0) (codes "FRU ID") guid
    ∷ field 44 20 (Some 1) (codes "FRU text") text
    ∷ field 64 8 (Some 2) (codes "timestamp") stamp
    ∷ []

abbrev pub long_data_entry : Structure
long_data_entry = structure 22 long_data_entry_fields 0 []
