-- The entries of a block and their places.
use Rattle.std.specs.Prelude.{◌≡◌, ℕ, ◌+◌, ◌≤◌, ◌<◌, ◌^◌, List, length, take, slice_get, Some}
use Rattle.ghes_block.specs.declared.entry.DataEntry.{DataEntry}
use Rattle.base_model.specs.Bytes.{number_at}
use Rattle.ghes_block.specs.Grammar.{EntryValue, BlockValue, entries_bytes}
use Rattle.ghes_block.specs.Reading.{entry_size, first_entry}

abbrev pub value_of : DataEntry → EntryValue
value_of entry = record { head = entry.head; body = entry.body.now }

-- the bytes begin with this block, all of whose head is there: the first number is its status, which isn't 0
pub record HasHead (bytes : List ℕ) (block : BlockValue) (size : ℕ) : Type 0 where
  pub long : 20 ≤ size
  pub size_is : block.size ≡ size
  pub status_is : block.status ≡ number_at bytes 0 4
  pub published : 0 < block.status

-- where the entry of an index begins, and where the last one ends
abbrev pub place_of : List EntryValue → ℕ → ℕ
place_of entries index = 20 + length (entries_bytes (take index entries))

-- the place of an entry, or the end
pub record IsPlace (entries : List EntryValue) (at : ℕ) : Type 0 where
  pub index : ℕ
  pub within : index ≤ length entries
  pub place : at ≡ place_of entries index

-- this entry begins there, and ends where the next one begins
pub record EntryAt (entries : List EntryValue) (at next : ℕ) (entry : EntryValue) : Type 0 where
  pub index : ℕ
  pub found : slice_get entries index ≡ Some entry
  pub place : at ≡ place_of entries index
  pub next_place : next ≡ place_of entries (index + 1)

-- what stands between a place and the end: nothing at the end, else an entry that begins there
pub record RestAt (entries : List EntryValue) (at : ℕ) (rest : List ℕ) : Type 0 where
  pub bound : at + length rest < 2 ^ 64
  pub none : length rest ≡ 0 → at ≡ place_of entries (length entries)
  pub some : 0 < length rest → (64 ≤ length rest) × (entry_size rest ≤ length rest) × EntryAt entries at (at + entry_size rest) (first_entry rest)
