-- The form of a status block, and files that hold nothing.
use Rattle.std.specs.Prelude.{ℕ, ◌^◌, ◌==◌, nat_le, nat_lt, Bool, ◌&&◌, ◌||◌, if◌then◌else◌, List, length, drop}
use Rattle.std.specs.List.{list_all}
use Rattle.base_model.specs.Bytes.{number_at}
use Rattle.show_findings.specs.declared.kinds.FileKind.{FileKind}
use Rattle.show_findings.specs.declared.kinds.FileKind.TheVariants.{Empty, Blocks, Blank, Unknown}

-- 20 bytes at least; a block status other than 0 and without a reserved bit; one of the four severities
abbrev pub is_block : List ℕ → Bool
is_block bytes = nat_le 20 (length bytes) && nat_lt 0 (number_at bytes 0 4) && nat_lt (number_at bytes 0 4) (2 ^ 14) && nat_lt (number_at bytes 16 4) 4

-- nothing but zeros, or nothing but the bytes of an erased flash
abbrev pub are_all : ℕ → List ℕ → Bool
are_all filling bytes = list_all (λ byte. byte == filling) bytes

-- a status block that reports nothing: no status, no raw data, no entries and no severity, and zeros behind its header
abbrev pub is_empty_block : List ℕ → Bool
is_empty_block bytes =
    nat_le 20 (length bytes) && number_at bytes 0 4 == 0 && number_at bytes 8 4 == 0 && number_at bytes 12 4 == 0 && number_at bytes 16 4 == 3
    && are_all 0 (drop 20 bytes)

abbrev pub is_blank : List ℕ → Bool
is_blank bytes = are_all 0 bytes || are_all 0xFF bytes || is_empty_block bytes

abbrev pub shaped_kind : List ℕ → FileKind
shaped_kind bytes =
    if length bytes == 0 then Empty
    else if is_block bytes then Blocks
    else if is_blank bytes then Blank
    else Unknown
