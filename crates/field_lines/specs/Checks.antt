-- Error sources of IA-32 processors (ACPI 6.4, 18.3.2.1, 18.3.2.2 and 18.3.2.10).
use Rattle.std.specs.Prelude.{ℕ, List, [], ◌∷◌, None, codes}
use Rattle.field_lines.specs.Fields.{Field, decimal_number, flags, hexadecimal, one_of, field}
use Rattle.field_lines.specs.Layouts.{Structure, structure, Group, group, fixed}

-- the types of error sources (ACPI 6.4, 18.3.2)
abbrev pub source_types : List (ℕ × List ℕ)
source_types =
    (0, codes "IA-32 machine check exception")
    ∷ (1, codes "IA-32 corrected machine check")
    ∷ (2, codes "IA-32 non-maskable interrupt")
    ∷ (6, codes "PCI Express root port AER")
    ∷ (7, codes "PCI Express device AER")
    ∷ (8, codes "PCI Express bridge AER")
    ∷ (9, codes "generic hardware error source")
    ∷ (10, codes "generic hardware error source version 2")
    ∷ (11, codes "IA-32 deferred machine check")
    ∷ []

-- the flags of error sources (ACPI 6.4, 18.3.2.1)
abbrev pub source_flags : List (ℕ × List ℕ)
source_flags =
    (0, codes "firmware first")
    ∷ (1, codes "global")
    ∷ (2, codes "GHES assist")
    ∷ []

-- the formats of a bank's status (ACPI 6.4, 18.3.2.1.1)
abbrev pub status_formats : List (ℕ × List ℕ)
status_formats =
    (0, codes "IA-32 MCA")
    ∷ (1, codes "Intel 64 MCA")
    ∷ (2, codes "AMD64 MCA")
    ∷ []

-- the types of notifications (ACPI 6.4, 18.3.2.9)
abbrev pub notifications : List (ℕ × List ℕ)
notifications =
    (0, codes "polled")
    ∷ (1, codes "external interrupt")
    ∷ (2, codes "local interrupt")
    ∷ (3, codes "SCI")
    ∷ (4, codes "NMI")
    ∷ (5, codes "CMCI")
    ∷ (6, codes "MCE")
    ∷ (7, codes "GPIO signal")
    ∷ (8, codes "ARMv8 SEA")
    ∷ (9, codes "ARMv8 SEI")
    ∷ (10, codes "external interrupt - GSIV")
    ∷ (11, codes "software delegated exception")
    ∷ []

-- the parts of a notification that may be written (ACPI 6.4, 18.3.2.9)
abbrev pub configuration_writes : List (ℕ × List ℕ)
configuration_writes =
    (0, codes "type")
    ∷ (1, codes "poll interval")
    ∷ (2, codes "switch to polling threshold value")
    ∷ (3, codes "switch to polling threshold window")
    ∷ (4, codes "error threshold value")
    ∷ (5, codes "error threshold window")
    ∷ []

-- an IA-32 machine check exception (ACPI 6.4, 18.3.2.1)
abbrev pub machine_check_fields : List Field
machine_check_fields =
    field 0 2 None (codes "type") (one_of source_types)
    ∷ field 2 2 None (codes "source ID") decimal_number
    ∷ field 6 1 None (codes "flags") (flags source_flags)
    ∷ field 7 1 None (codes "enabled") decimal_number
    ∷ field 8 4 None (codes "number of records to pre-allocate") decimal_number
    ∷ field 12 4 None (codes "max sections per record") decimal_number
    ∷ field 16 8 None (codes "global capability init data") hexadecimal
    ∷ field 24 8 None (codes "global control init data") hexadecimal
    ∷ field 32 1 None (codes "number of hardware banks") decimal_number
    ∷ []

-- a part of it: bank
abbrev pub bank_fields : List Field
bank_fields =
    field 0 1 None (codes "bank number") decimal_number
    ∷ field 1 1 None (codes "clear status on initialization") decimal_number
    ∷ field 2 1 None (codes "status data format") (one_of status_formats)
    ∷ field 4 4 None (codes "control register MSR address") hexadecimal
    ∷ field 8 8 None (codes "control init data") hexadecimal
    ∷ field 16 4 None (codes "status register MSR address") hexadecimal
    ∷ field 20 4 None (codes "address register MSR address") hexadecimal
    ∷ field 24 4 None (codes "misc register MSR address") hexadecimal
    ∷ []

abbrev pub machine_check_groups : List Group
machine_check_groups =
    group (codes "bank") 32 1 0 8 (fixed 28) 0 bank_fields []
    ∷ []

abbrev pub machine_check : Structure
machine_check = structure 0 machine_check_fields 40 machine_check_groups

-- an IA-32 corrected machine check, or a deferred one (ACPI 6.4, 18.3.2.2, 18.3.2.10)
abbrev pub corrected_check_fields : List Field
corrected_check_fields =
    field 0 2 None (codes "type") (one_of source_types)
    ∷ field 2 2 None (codes "source ID") decimal_number
    ∷ field 6 1 None (codes "flags") (flags source_flags)
    ∷ field 7 1 None (codes "enabled") decimal_number
    ∷ field 8 4 None (codes "number of records to pre-allocate") decimal_number
    ∷ field 12 4 None (codes "max sections per record") decimal_number
    ∷ field 16 1 None (codes "notification type") (one_of notifications)
    ∷ field 17 1 None (codes "notification length") decimal_number
    ∷ field 18 2 None (codes "configuration write enable") (flags configuration_writes)
    ∷ field 20 4 None (codes "poll interval") decimal_number
    ∷ field 24 4 None (codes "vector") decimal_number
    ∷ field 28 4 None (codes "switch to polling threshold value") decimal_number
    ∷ field 32 4 None (codes "switch to polling threshold window") decimal_number
    ∷ field 36 4 None (codes "error threshold value") decimal_number
    ∷ field 40 4 None (codes "error threshold window") decimal_number
    ∷ field 44 1 None (codes "number of hardware banks") decimal_number
    ∷ []

abbrev pub corrected_check_groups : List Group
corrected_check_groups =
    group (codes "bank") 44 1 0 8 (fixed 28) 0 bank_fields []
    ∷ []

abbrev pub corrected_check : Structure
corrected_check = structure 0 corrected_check_fields 48 corrected_check_groups

-- an IA-32 non-maskable interrupt (ACPI 6.4, 18.3.2.2.1)
abbrev pub nmi_source_fields : List Field
nmi_source_fields =
    field 0 2 None (codes "type") (one_of source_types)
    ∷ field 2 2 None (codes "source ID") decimal_number
    ∷ field 8 4 None (codes "number of records to pre-allocate") decimal_number
    ∷ field 12 4 None (codes "max sections per record") decimal_number
    ∷ field 16 4 None (codes "max raw data length") decimal_number
    ∷ []

abbrev pub nmi_source : Structure
nmi_source = structure 0 nmi_source_fields 0 []
