-- What stands before and behind the header of each table.
use Rattle.std.specs.Prelude.{ℕ, List, [], ◌∷◌, None, codes}
use Rattle.field_lines.specs.Fields.{Field, decimal_number, hexadecimal, field, text}
use Rattle.field_lines.specs.Layouts.{Structure, structure}

-- the header of a table (ACPI 6.4, 5.2.6)
abbrev pub table_header_fields : List Field
table_header_fields =
    field 0 4 None (codes "signature") text
    ∷ field 4 4 None (codes "length") decimal_number
    ∷ field 8 1 None (codes "revision") decimal_number
    ∷ field 9 1 None (codes "checksum") hexadecimal
    ∷ field 10 6 None (codes "OEM ID") text
    ∷ field 16 8 None (codes "OEM table ID") text
    ∷ field 24 4 None (codes "OEM revision") hexadecimal
    ∷ field 28 4 None (codes "creator ID") text
    ∷ field 32 4 None (codes "creator revision") hexadecimal
    ∷ []

abbrev pub table_header : Structure
table_header = structure 0 table_header_fields 0 []

-- what stands behind the header of a HEST (ACPI 6.4, 18.3.2)
abbrev pub hest_header_fields : List Field
hest_header_fields =
    field 36 4 None (codes "error source count") decimal_number
    ∷ []

abbrev pub hest_header : Structure
hest_header = structure 0 hest_header_fields 0 []

-- what stands behind the header of a BERT (ACPI 6.4, 18.3.1)
abbrev pub bert_fields_fields : List Field
bert_fields_fields =
    field 36 4 None (codes "boot error region length") decimal_number
    ∷ field 40 8 None (codes "boot error region") hexadecimal
    ∷ []

abbrev pub bert_fields : Structure
bert_fields = structure 0 bert_fields_fields 0 []
