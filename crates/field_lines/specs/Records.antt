-- The header of a record, and section descriptors (UEFI 2.8, N.2.1 and N.2.2).
use Rattle.std.specs.Prelude.{ℕ, List, [], ◌∷◌, Some, None, codes}
use Rattle.field_lines.specs.Fields.{Field, decimal_number, flags, guid, hexadecimal, one_of, field, seconds, stamp, text}
use Rattle.field_lines.specs.Layouts.{Structure, structure}

-- the severities of records and sections (UEFI 2.8, N.2.1)
abbrev pub severities : List (ℕ × List ℕ)
severities =
    (0, codes "recoverable")
    ∷ (1, codes "fatal")
    ∷ (2, codes "corrected")
    ∷ (3, codes "informational")
    ∷ []

-- the validation bits of a record (UEFI 2.8, N.2.1)
abbrev pub record_validity : List (ℕ × List ℕ)
record_validity =
    (0, codes "platform ID")
    ∷ (1, codes "timestamp")
    ∷ (2, codes "partition ID")
    ∷ []

-- the flags of a record (UEFI 2.8, N.2.1.2)
abbrev pub record_flags : List (ℕ × List ℕ)
record_flags =
    (0, codes "recovered")
    ∷ (1, codes "previous error")
    ∷ (2, codes "simulated")
    ∷ []

-- the validation bits of a section (UEFI 2.8, N.2.2)
abbrev pub section_validity : List (ℕ × List ℕ)
section_validity =
    (0, codes "FRU ID")
    ∷ (1, codes "FRU text")
    ∷ []

-- the flags of a section (UEFI 2.8, N.2.2)
abbrev pub section_flags : List (ℕ × List ℕ)
section_flags =
    (0, codes "primary")
    ∷ (1, codes "containment warning")
    ∷ (2, codes "reset")
    ∷ (3, codes "error threshold exceeded")
    ∷ (4, codes "resource not accessible")
    ∷ (5, codes "latent error")
    ∷ (6, codes "propagated")
    ∷ (7, codes "overflow")
    ∷ []

-- the header of a record (UEFI 2.8, N.2.1)
abbrev pub record_header_fields : List Field
record_header_fields =
    field 0 4 None (codes "signature start") text
    ∷ field 4 2 None (codes "revision") hexadecimal
    ∷ field 6 4 None (codes "signature end") hexadecimal
    ∷ field 10 2 None (codes "section count") decimal_number
    ∷ field 12 4 None (codes "error severity") (one_of severities)
    ∷ field 16 4 None (codes "validation bits") (flags record_validity)
    ∷ field 20 4 None (codes "record length") decimal_number
    ∷ field 24 8 (Some 1) (codes "timestamp") stamp
    ∷ field 32 16 (Some 0) (codes "platform ID") guid
    ∷ field 48 16 (Some 2) (codes "partition ID") guid
    ∷ field 64 16 None (codes "creator ID") guid
    ∷ field 80 16 None (codes "notification type") guid
    ∷ field 96 8 None (codes "record ID") hexadecimal
    ∷ field 104 4 None (codes "flags") (flags record_flags)
    ∷ field 108 8 None (codes "persistence information") hexadecimal
    ∷ []

abbrev pub record_header : Structure
record_header = structure 16 record_header_fields 0 []

-- the header of a record of Linux's, whose time is in seconds
abbrev pub linux_header_fields : List Field
linux_header_fields =
    field 0 4 None (codes "signature start") text
    ∷ field 4 2 None (codes "revision") hexadecimal
    ∷ field 6 4 None (codes "signature end") hexadecimal
    ∷ field 10 2 None (codes "section count") decimal_number
    ∷ field 12 4 None (codes "error severity") (one_of severities)
    ∷ field 16 4 None (codes "validation bits") (flags record_validity)
    ∷ field 20 4 None (codes "record length") decimal_number
    ∷ field 24 8 (Some 1) (codes "timestamp") seconds
    ∷ field 32 16 (Some 0) (codes "platform ID") guid
    ∷ field 48 16 (Some 2) (codes "partition ID") guid
    ∷ field 64 16 None (codes "creator ID") guid
    ∷ field 80 16 None (codes "notification type") guid
    ∷ field 96 8 None (codes "record ID") hexadecimal
    ∷ field 104 4 None (codes "flags") (flags record_flags)
    ∷ field 108 8 None (codes "persistence information") hexadecimal
    ∷ []

abbrev pub linux_header : Structure
linux_header = structure 16 linux_header_fields 0 []

-- a section descriptor (UEFI 2.8, N.2.2)
abbrev pub section_descriptor_fields : List Field
section_descriptor_fields =
    field 0 4 None (codes "section offset") decimal_number
    ∷ field 4 4 None (codes "section length") decimal_number
    ∷ field 8 2 None (codes "revision") hexadecimal
    ∷ field 10 1 None (codes "validation bits") (flags section_validity)
    ∷ field 12 4 None (codes "flags") (flags section_flags)
    ∷ field 16 16 None (codes "section type") guid
    ∷ field 32 16 (Some 0) (codes "FRU ID") guid
    ∷ field 48 4 None (codes "section severity") (one_of severities)
    ∷ field 52 20 (Some 1) (codes "FRU text") text
    ∷ []

abbrev pub section_descriptor : Structure
section_descriptor = structure 10 section_descriptor_fields 0 []
