-- A change in parts, as a medium makes it whose pages are programmed one at a time.
use Rattle.std.specs.Prelude.{◌≡◌, ℕ, ◌+◌, ◌-◌, ◌%◌, ◌<◌, ◌≤◌, ◌==◌, nat_lt, min, if◌then◌else◌, List, length, slice_get, Some, None}
use Rattle.base_model.specs.Bytes.{part, put_at}
use Rattle.base_model.specs.Flash.{Told, image_at}
use Rattle.erst_port.specs.declared.due.Kind.{Kind}
use Rattle.erst_port.specs.declared.due.Kind.TheVariants.{Program}
use Rattle.erst_port.specs.declared.parts.Made.{Made}

-- the bytes of a page
abbrev pub page_size : ℕ
page_size = 256

-- the bytes of the next part of a change that has so many bytes from a place of the medium on, and of which the first ones are made: those up
-- to the end of a page. A change of more bytes than a page has, which is an erase, is one part
abbrev pub part_size : (start size begun : ℕ) → ℕ
part_size start size begun = if nat_lt page_size size then size - begun else min (size - begun) (page_size - (start + begun) % page_size)

-- the part of a change, whose bytes are these, that stands behind its first bytes. What is programmed lies in one page
pub record IsPart (start : ℕ) (whole : List ℕ) (begun : ℕ) (kind : Kind) (at : ℕ) (bytes : List ℕ) : Type 0 where
  pub starts : at ≡ start + begun
  pub inside : begun + length bytes ≤ length whole
  pub size_is : length bytes ≡ part_size start (length whole) begun
  pub bytes_are : bytes ≡ part whole begun (length bytes)
  pub page : kind ≡ Program → (0 < length bytes) × (at % page_size + length bytes ≤ page_size)

-- a medium that has made nothing
abbrev pub nothing_made : Made
nothing_made = record { changes = 0; bytes = 0 }

-- one that has made so many changes
abbrev pub all_made : (n : ℕ) → Made
all_made n = record { changes = n; bytes = 0 }

-- behind n more bytes of a change that has so many
abbrev pub made_behind : Made → (n size : ℕ) → Made
made_behind made n size = if made.bytes + n == size then record { changes = made.changes + 1; bytes = 0 } else record { changes = made.changes; bytes = made.bytes + n }

-- behind the next part
unfoldable pub next_made : (origin : ℕ) → Told → Made → Made
next_made origin told made =
    elim (slice_get told.past made.changes) [ None ↦ made | Some change ↦ made_behind made (part_size (origin + change.at) change.len made.bytes) change.len ]

-- how many bytes change number s has, from 0
abbrev pub size_at : Told → (s : ℕ) → ℕ
size_at told s = elim (slice_get told.past s) [ None ↦ 0 | Some change ↦ change.len ]

-- what a flash holds whose medium has made so much: the image before the next change, with its first bytes
unfoldable pub held : Told → Made → List ℕ
held told made =
    elim (slice_get told.past made.changes) [ None ↦ told.image | Some change ↦ put_at change.before change.at (part (image_at told (made.changes + 1)) change.at made.bytes) ]
