-- Signatures that a file begins with.
use Rattle.std.specs.Prelude.{ℕ, ◌%◌, ◌==◌, nat_le, Bool, ◌&&◌, ◌||◌, if◌then◌else◌, List, length, take, drop, sum, codes, Option, Some, None}
use Rattle.std.specs.List.{list_all}
use Rattle.std.specs.Str.{bytes_eq}
use Rattle.base_model.specs.Bytes.{number_at}
use Rattle.show_findings.specs.declared.kinds.FileKind.{FileKind}
use Rattle.show_findings.specs.declared.kinds.FileKind.TheVariants.{Dump, Qemu, Medium, Records, Tables}

abbrev pub begins : List ℕ → List ℕ → Bool
begins text bytes = bytes_eq text (take (length text) bytes)

-- a capital letter, a digit or an underscore
abbrev pub is_letter : ℕ → Bool
is_letter byte = (nat_le 65 byte && nat_le byte 90) || (nat_le 48 byte && nat_le byte 57) || (byte == 95)

-- four letters of a signature
abbrev pub is_name : List ℕ → Bool
is_name bytes = nat_le 4 (length bytes) && list_all is_letter (take 4 bytes)

-- a line of acpidump: the signature of a table, and its address
abbrev pub is_dump : List ℕ → Bool
is_dump bytes = is_name bytes && begins (codes " @ 0x") (drop 4 bytes)

-- a table whose fields are shown
abbrev pub is_known_table : List ℕ → Bool
is_known_table bytes = begins (codes "ERST") bytes || begins (codes "HEST") bytes || begins (codes "BERT") bytes

-- what bytes add to
abbrev pub sum_of : List ℕ → ℕ
sum_of bytes = sum bytes % 256

-- a table of any signature whose length is within the bytes, and whose bytes add to 0
abbrev pub is_sealed : List ℕ → Bool
is_sealed bytes =
    nat_le 36 (length bytes) && is_name bytes && nat_le 36 (number_at bytes 4 4) && nat_le (number_at bytes 4 4) (length bytes)
    && (sum_of (take (number_at bytes 4 4) bytes) == 0)

abbrev pub signed_kind : List ℕ → Option FileKind
signed_kind bytes =
    if is_dump bytes then Some Dump
    else if begins (codes "ERSTSTOR") bytes then Some Qemu
    else if begins (codes "APEIERST") bytes then Some Medium
    else if begins (codes "CPER") bytes then Some Records
    else if is_known_table bytes || is_sealed bytes then Some Tables
    else None
