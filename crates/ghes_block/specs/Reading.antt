-- What is read at the front of bytes, and why nothing is.
use Rattle.std.specs.Prelude.{◌≡◌, ℕ, ◌+◌, ◌-◌, List, length, ◌==◌, nat_lt, if◌then◌else◌, Result, Ok, Err}
use Rattle.base_model.specs.Bytes.{part, number_at, AreBytes}
use Rattle.apei_bytes.specs.Walk.{Walk, items_in, item_count}
use Rattle.ghes_block.specs.declared.entry.EntryHead.{EntryHead}
use Rattle.ghes_block.specs.declared.error.BlockError.{BlockError}
use Rattle.ghes_block.specs.declared.error.BlockError.TheVariants.{Need, NotPublished, RawOffset, Entry, Rest}
pub use Rattle.ghes_block.specs.Grammar.{EntryValue, BlockValue, is_stamped}

-- how long the head of the entry that stands first is, and the entry
abbrev pub head_size : List ℕ → ℕ
head_size bytes = if is_stamped (number_at bytes 20 2) then 72 else 64

abbrev pub entry_size : List ℕ → ℕ
entry_size bytes = head_size bytes + number_at bytes 24 4

-- the fields at their places in an entry
abbrev pub entry_head_at : List ℕ → EntryHead
entry_head_at bytes = record {
  kind = part bytes 0 16;
  severity = number_at bytes 16 4;
  revision = number_at bytes 20 2;
  validation = number_at bytes 22 1;
  flags = number_at bytes 23 1;
  fru = part bytes 28 16;
  fru_text = part bytes 44 20;
  stamp = if is_stamped (number_at bytes 20 2) then number_at bytes 64 8 else 0;
}

unfoldable pub first_entry : List ℕ → EntryValue
first_entry bytes = record { head = entry_head_at bytes; body = part bytes (head_size bytes) (number_at bytes 24 4) }

-- how long the whole entry is that stands first, by its index and place in the block, or why there is none
unfoldable pub whole_entry_size : ℕ → ℕ → List ℕ → Result ℕ BlockError
whole_entry_size index at rest =
    if nat_lt (length rest) 64 then Err (Rest (length rest))
    else if nat_lt (length rest) (entry_size rest) then Err (Entry index at)
    else Ok (entry_size rest)

-- how entries are read one after another
abbrev pub entry_walk : Walk EntryValue BlockError
entry_walk = record { ends = λ rest. length rest == 0; size = whole_entry_size; item = λ at rest len. first_entry rest }

-- how many entries the block's data has, which begins at 20, or the first fault
unfoldable pub entry_count : List ℕ → Result ℕ BlockError
entry_count bytes =
    let content = part bytes 20 (number_at bytes 12 4) in
    item_count entry_walk (length content) 0 20 content

-- the block that the bytes are
unfoldable pub block_of : List ℕ → BlockValue
block_of bytes =
    let content = part bytes 20 (number_at bytes 12 4) in
    record {
      status = number_at bytes 0 4;
      severity = number_at bytes 16 4;
      entries = items_in entry_walk (length content) 0 20 content;
      raw = part bytes (number_at bytes 4 4) (number_at bytes 8 4);
      size = length bytes;
    }

-- the length where so many bytes are there, and the entries have no fault
abbrev pub length_if_there : ℕ → ℕ → Result ℕ BlockError → Result ℕ BlockError
length_if_there have len counted =
    if nat_lt have len then Err (Need (len - have)) else elim counted [ Ok count ↦ Ok len | Err error ↦ Err error ]

-- the length of the block that the bytes begin with, or the first check that fails
unfoldable pub checked : List ℕ → Result ℕ BlockError
checked bytes =
    let raw_offset = number_at bytes 4 4 in
    let raw_length = number_at bytes 8 4 in
    let data_end = 20 + number_at bytes 12 4 in
    if nat_lt (length bytes) 20 then Err (Need (20 - length bytes))
    else if number_at bytes 0 4 == 0 then Err NotPublished
    else if raw_length == 0 then length_if_there (length bytes) data_end (entry_count bytes)
    else if nat_lt raw_offset data_end then Err (RawOffset raw_offset)
    else length_if_there (length bytes) (raw_offset + raw_length) (entry_count bytes)

-- what is known of the bytes of a block that was read: they are all of it, and it has so many entries
pub record IsReadBlock (bytes : List ℕ) (count : ℕ) : Type 0 where
  pub whole : checked bytes ≡ Ok (length bytes)
  pub counted_is : entry_count bytes ≡ Ok count
  pub are_bytes : AreBytes bytes
