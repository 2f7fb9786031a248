-- What stands in a field, as text and as JSON.
use Rattle.std.specs.Prelude.{ℕ, ◌==◌, nat_lt, if◌then◌else◌, List, [], ◌∷◌, ◌++◌, Option, Some, None, codes, decimal, drop, slice_index}
use Rattle.base_model.specs.Bytes.{part, little}
use Rattle.apei_bytes.specs.Guid.{digits, guid_text}
use Rattle.field_lines.specs.Numbers.{bits_of}
use Rattle.field_lines.specs.Texts.{high_first, text_of, lines_text, escaped_text, escaped_lines, quoted}
use Rattle.field_lines.specs.Times.{stamp_text, date_text}
use Rattle.field_lines.specs.Names.{name_in, named, flag_words, named_object, flags_object}
use Rattle.field_lines.specs.Fields.{Shown, Field, decimal_number, hexadecimal, guid, text, one_of, flags, bits, stamp, seconds, register, digits_of_bytes, all_bytes, all_lines}

-- a time of the years up to 9999
abbrev pub date_in_brackets : ℕ → List ℕ
date_in_brackets number = if nat_lt number 253402300800 then codes " (" ++ date_text number ++ codes ")" else []

-- the spaces of generic addresses (ACPI 6.4, 5.2.3.2)
abbrev pub address_spaces : List (ℕ × List ℕ)
address_spaces =
    (0, codes "memory")
    ∷ (1, codes "I/O")
    ∷ (2, codes "PCI configuration")
    ∷ (3, codes "embedded controller")
    ∷ (4, codes "SMBus")
    ∷ (5, codes "CMOS")
    ∷ (6, codes "PCI BAR target")
    ∷ (7, codes "IPMI")
    ∷ (8, codes "general purpose I/O")
    ∷ (9, codes "generic serial bus")
    ∷ (10, codes "platform communications channel")
    ∷ (127, codes "fixed hardware")
    ∷ []

unfoldable pub space_name : ℕ → Option (List ℕ)
space_name space = name_in address_spaces space

abbrev pub or_number : Option (List ℕ) → ℕ → List ℕ
or_number (Some name) number = name
or_number None number = codes "space " ++ decimal number

-- a number behind words, and nothing for 0
abbrev pub unless_zero : List ℕ → ℕ → List ℕ
unless_zero words number = if number == 0 then [] else words ++ decimal number

-- the space and the width: `memory 32 bits`
unfoldable pub register_space : List ℕ → List ℕ
register_space bytes =
    let byte = slice_index bytes in
    or_number (space_name (byte 0)) (byte 0) ++ codes " " ++ decimal (byte 1) ++ codes " bits"

-- the first bit and the size of an access, unless they are 0
unfoldable pub register_access : List ℕ → List ℕ
register_access bytes = unless_zero (codes " from bit ") (slice_index bytes 2) ++ unless_zero (codes " access ") (slice_index bytes 3)

-- `memory 32 bits at 0x00000000fed1f410`
abbrev pub register_text : List ℕ → List ℕ
register_text bytes = register_space bytes ++ register_access bytes ++ codes " at 0x" ++ high_first (drop 4 bytes)

abbrev pub register_object : List ℕ → List ℕ
register_object bytes =
    let byte = slice_index bytes in
    codes "{\"space\":" ++ decimal (byte 0) ++ codes ",\"width\":" ++ decimal (byte 1) ++ codes ",\"offset\":" ++ decimal (byte 2)
    ++ codes ",\"access\":" ++ decimal (byte 3) ++ codes ",\"address\":\"0x" ++ high_first (drop 4 bytes) ++ codes "\"}"

abbrev pub value_text : Shown → List ℕ → List ℕ
value_text decimal_number bytes = decimal (little bytes)
value_text hexadecimal bytes = codes "0x" ++ high_first bytes
value_text guid bytes = guid_text bytes
value_text text bytes = text_of bytes
value_text (one_of names) bytes = named names (little bytes)
value_text (flags names) bytes = decimal (little bytes) ++ flag_words names (little bytes)
value_text (bits low count names) bytes = named names (bits_of (little bytes) low count)
value_text stamp bytes = stamp_text bytes
value_text seconds bytes = decimal (little bytes) ++ date_in_brackets (little bytes)
value_text register bytes = register_text bytes
value_text all_bytes bytes = digits bytes
value_text digits_of_bytes bytes = digits bytes
value_text all_lines bytes = lines_text bytes

abbrev pub time_member : ℕ → List ℕ
time_member number = if nat_lt number 253402300800 then codes ",\"time\":" ++ quoted (date_text number) else []

unfoldable pub seconds_object : ℕ → List ℕ
seconds_object number = codes "{\"seconds\":" ++ decimal number ++ time_member number ++ codes "}"

abbrev pub value_json : Shown → List ℕ → List ℕ
value_json decimal_number bytes = decimal (little bytes)
value_json hexadecimal bytes = codes "\"0x" ++ high_first bytes ++ codes "\""
value_json guid bytes = quoted (guid_text bytes)
value_json text bytes = quoted (escaped_text bytes)
value_json (one_of names) bytes = named_object names (little bytes)
value_json (flags names) bytes = flags_object names (little bytes)
value_json (bits low count names) bytes = named_object names (bits_of (little bytes) low count)
value_json stamp bytes = quoted (stamp_text bytes)
value_json seconds bytes = seconds_object (little bytes)
value_json register bytes = register_object bytes
value_json all_bytes bytes = quoted (digits bytes)
value_json digits_of_bytes bytes = quoted (digits bytes)
value_json all_lines bytes = quoted (escaped_lines bytes)

abbrev pub bytes_for : Shown → ℕ → ℕ → List ℕ → List ℕ
bytes_for all_bytes at width body = drop at body
bytes_for all_lines at width body = drop at body
bytes_for shown at width body = part body at width

-- the bytes of a field: so many from its place on, or all
abbrev pub field_bytes : Field → List ℕ → List ℕ
field_bytes field body = bytes_for field.shown field.at field.width body
