-- The record that a write finds in the log range.
use Rattle.std.specs.Prelude.{ℕ, ◌+◌, nat_lt, if◌then◌else◌, List, length, Option, Some, None}
use Rattle.base_model.specs.Bytes.{number_at}
use Rattle.record_model.specs.Records.{is_reserved}

-- the length and the identifier of the record at an offset of the log range (UEFI 2.8, appendix N.2.1: bytes 20 and 96 of its
-- header). There is none where the range has fewer than the 128 bytes of a header from there on, where the length is less or goes
-- beyond the range, and where no record can have the identifier
abbrev pub draft_at : ℕ → List ℕ → Option (ℕ × ℕ)
draft_at offset range =
    if nat_lt (length range) (offset + 128) then None
    else (if nat_lt (number_at range (offset + 20) 4) 128 then None
    else (if nat_lt (length range) (offset + number_at range (offset + 20) 4) then None
    else (if is_reserved (number_at range (offset + 96) 8) then None
    else Some (number_at range (offset + 20) 4, number_at range (offset + 96) 8))))
