-- What is read at the front of bytes, and why nothing is.
use Rattle.std.specs.Prelude.{◌≡◌, ℕ, zero, suc, ◌+◌, ◌-◌, ◌*◌, ◌^◌, List, [], ◌∷◌, length, codes, Bool, ◌==◌, ◌||◌, nat_lt, if◌then◌else◌, Option, Some, None, Result, Ok, Err}
use Rattle.base_model.specs.Bytes.{part, number_at, little}
use Rattle.cper_frame.specs.declared.heads.RecordHead.{RecordHead}
use Rattle.cper_frame.specs.declared.heads.SectionHead.{SectionHead}
use Rattle.cper_frame.specs.declared.error.FrameError.{FrameError}
use Rattle.cper_frame.specs.declared.error.FrameError.TheVariants.{Need, Start, End, Length, Section, Limit}
use Rattle.cper_frame.specs.Grammar.{SectionValue, RecordValue, bodies_from}

-- the fields at their places in a header
abbrev pub head_at : List ℕ → RecordHead
head_at bytes = record {
  revision = number_at bytes 4 2;
  severity = number_at bytes 12 4;
  validation = number_at bytes 16 4;
  timestamp = number_at bytes 24 8;
  platform = part bytes 32 16;
  partition = part bytes 48 16;
  creator = part bytes 64 16;
  notification = part bytes 80 16;
  id = number_at bytes 96 8;
  flags = number_at bytes 104 4;
  persistence = part bytes 108 8;
  reserved = part bytes 116 12;
}

-- the fields at their places in a descriptor
abbrev pub section_head_at : List ℕ → SectionHead
section_head_at descriptor = record {
  revision = number_at descriptor 8 2;
  validation = number_at descriptor 10 1;
  reserved = number_at descriptor 11 1;
  flags =
      number_at descriptor 12 4;
  kind = part descriptor 16 16;
  fru = part descriptor 32 16;
  severity = number_at descriptor 48 4;
  fru_text = part descriptor 52 20;
}

abbrev pub descriptor_at : List ℕ → ℕ → List ℕ
descriptor_at bytes index = part bytes (128 + 72 * index) 72

unfoldable pub section_at : List ℕ → ℕ → SectionValue
section_at bytes index =
    let descriptor = descriptor_at bytes index in
    record {
      head = section_head_at descriptor;
      offset = number_at descriptor 0 4;
      body = part bytes (number_at descriptor 0 4) (number_at descriptor 4 4);
    }

-- so many sections, from an index on
abbrev pub sections_from : List ℕ → ℕ → ℕ → List SectionValue
sections_from bytes zero index = []
sections_from bytes (suc n) index = section_at bytes index ∷ sections_from bytes n (index + 1)

-- the record that the bytes are; the two bytes at 10 say how many sections it has
unfoldable pub record_of : List ℕ → RecordValue
record_of bytes = record { head = head_at bytes; sections = sections_from bytes (number_at bytes 10 2) 0 }

-- a body that begins before the first place or ends behind the last
unfoldable pub is_misplaced : List ℕ → ℕ → ℕ → ℕ → Bool
is_misplaced bytes first last index =
    let offset = number_at (descriptor_at bytes index) 0 4 in
    nat_lt offset first || nat_lt last (offset + number_at (descriptor_at bytes index) 4 4)

-- the first of so many sections, from an index on, whose body is misplaced
abbrev pub misplaced_from : List ℕ → ℕ → ℕ → ℕ → ℕ → Option ℕ
misplaced_from bytes first last zero index = None
misplaced_from bytes first last (suc n) index =
    if is_misplaced bytes first last index then Some index else misplaced_from bytes first last n (index + 1)

-- of all sections of a record, whose length stands in the four bytes at 20
unfoldable pub misplaced : List ℕ → Option ℕ
misplaced bytes =
    let sections = number_at bytes 10 2 in
    misplaced_from bytes (bodies_from sections) (number_at bytes 20 4) sections 0

-- the length of the record that the bytes begin with, of at most `limit` bytes, or the first check that fails
unfoldable pub checked : ℕ → List ℕ → Result ℕ FrameError
checked limit bytes =
    let len = number_at bytes 20 4 in
    if nat_lt (length bytes) 128 then Err (Need (128 - length bytes))
    else if number_at bytes 0 4 == little (codes "CPER")
    then if number_at bytes 6 4 == 2 ^ 32 - 1
    then if nat_lt len (bodies_from (number_at bytes 10 2)) then Err (Length len)
    else if nat_lt limit len then Err (Limit len)
    else if nat_lt (length bytes) len then Err (Need (len - length bytes))
    else elim (misplaced bytes) [ None ↦ Ok len | Some index ↦ Err (Section index) ]
    else Err End
    else Err Start

-- the bytes are one record, all of them
abbrev pub IsWhole : List ℕ → Type 0
IsWhole bytes = checked (2 ^ 32 - 1) bytes ≡ Ok (length bytes)
