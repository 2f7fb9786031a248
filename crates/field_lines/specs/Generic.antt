-- Generic hardware error sources (ACPI 6.4, 18.3.2.7 and 18.3.2.8).
use Rattle.std.specs.Prelude.{ℕ, List, [], ◌∷◌, None, codes}
use Rattle.field_lines.specs.Fields.{Field, decimal_number, flags, hexadecimal, one_of, register, field}
use Rattle.field_lines.specs.Layouts.{Structure, structure}
use Rattle.field_lines.specs.Checks.{source_types, notifications, configuration_writes}

-- a generic hardware error source (ACPI 6.4, 18.3.2.7)
abbrev pub generic_source_fields : List Field
generic_source_fields =
    field 0 2 None (codes "type") (one_of source_types)
    ∷ field 2 2 None (codes "source ID") decimal_number
    ∷ field 4 2 None (codes "related source ID") decimal_number
    ∷ field 6 1 None (codes "flags") hexadecimal
    ∷ field 7 1 None (codes "enabled") decimal_number
    ∷ field 8 4 None (codes "number of records to pre-allocate") decimal_number
    ∷ field 12 4 None (codes "max sections per record") decimal_number
    ∷ field 16 4 None (codes "max raw data length") decimal_number
    ∷ field 20 12 None (codes "error status address") register
    ∷ field 32 1 None (codes "notification type") (one_of notifications)
    ∷ field 33 1 None (codes "notification length") decimal_number
    ∷ field 34 2 None (codes "configuration write enable") (flags configuration_writes)
    ∷ field 36 4 None (codes "poll interval") decimal_number
    ∷ field 40 4 None (codes "vector") decimal_number
    ∷ field 44 4 None (codes "switch to polling threshold value") decimal_number
    ∷ field 48 4 None (codes "switch to polling threshold window") decimal_number
    ∷ field 52 4 None (codes "error threshold value") decimal_number
    ∷ field 56 4 None (codes "error threshold window") decimal_number
    ∷ field 60 4 None (codes "error status block length") decimal_number
    ∷ []

abbrev pub generic_source : Structure
generic_source = structure 0 generic_source_fields 0 []

-- one of version 2 (ACPI 6.4, 18.3.2.8)
abbrev pub generic_source_2_fields : List Field
generic_source_2_fields =
    field 0 2 None (codes "type") (one_of source_types)
    ∷ field 2 2 None (codes "source ID") decimal_number
    ∷ field 4 2 None (codes "related source ID") decimal_number
    ∷ field 6 1 None (codes "flags") hexadecimal
    ∷ field 7 1 None (codes "enabled") decimal_number
    ∷ field 8 4 None (codes "number of records to pre-allocate") decimal_number
    ∷ field 12 4 None (codes "max sections per record") decimal_number
    ∷ field 16 4 None (codes "max raw data length") decimal_number
    ∷ field 20 12 None (codes "error status address") register
    ∷ field 32 1 None (codes "notification type") (one_of notifications)
    ∷ field 33 1 None (codes "notification length") decimal_number
    ∷ field 34 2 None (codes "configuration write enable") (flags configuration_writes)
    ∷ field 36 4 None (codes "poll interval") decimal_number
    ∷ field 40 4 None (codes "vector") decimal_number
    ∷ field 44 4 None (codes "switch to polling threshold value") decimal_number
    ∷ field 48 4 None (codes "switch to polling threshold window") decimal_number
    ∷ field 52 4 None (codes "error threshold value") decimal_number
    ∷ field 56 4 None (codes "error threshold window") decimal_number
    ∷ field 60 4 None (codes "error status block length") decimal_number
    ∷ field 64 12 None (codes "read ack register") register
    ∷ field 76 8 None (codes "read ack preserve") hexadecimal
    ∷ field 84 8 None (codes "read ack write") hexadecimal
    ∷ []

abbrev pub generic_source_2 : Structure
generic_source_2 = structure 0 generic_source_2_fields 0 []
