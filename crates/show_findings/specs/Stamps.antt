-- A time in digits of four bits (UEFI 2.8, N.2.1), as a sentence tells it.
use Rattle.std.specs.Prelude.{ℕ, ◌+◌, ◌*◌, ◌/◌, ◌%◌, ◌==◌, ◌&&◌, nat_le, Bool, if◌then◌else◌, List, [], ◌++◌, codes, slice_index}
use Rattle.field_lines.specs.Times.{stamp_date, stamp_clock}

-- two decimal digits, which are a number from one to another
abbrev pub is_packed : (byte least most : ℕ) → Bool
is_packed byte least most =
    nat_le (byte / 16) 9 && nat_le (byte % 16) 9 && nat_le least (byte / 16 * 10 + byte % 16) && nat_le (byte / 16 * 10 + byte % 16) most

-- seconds, minutes, hours, flags, day, month, year and century
abbrev pub is_time : List ℕ → Bool
is_time stamp =
    is_packed (slice_index stamp 0) 0 59 && is_packed (slice_index stamp 1) 0 59 && is_packed (slice_index stamp 2) 0 23
    && is_packed (slice_index stamp 4) 1 31 && is_packed (slice_index stamp 5) 1 12 && is_packed (slice_index stamp 6) 0 99 && is_packed (slice_index stamp 7) 0 99

-- the lowest flag says that the time is precise
abbrev pub about_word : ℕ → List ℕ
about_word flags = if flags % 2 == 1 then [] else codes " or about then"

abbrev pub stamp_words : List ℕ → List ℕ
stamp_words stamp =
    if is_time stamp then codes ", " ++ stamp_date stamp ++ codes " " ++ stamp_clock stamp ++ about_word (slice_index stamp 3)
    else codes ", no valid time"
