-- A block while it is written.
use Rattle.std.specs.Prelude.{◌≡◌, ℕ, ◌+◌, ◌^◌, ◌<◌, ◌≤◌, ◌==◌, if◌then◌else◌, List, length, take, drop, All}
use Rattle.std.specs.Borrow.{GName}
use Rattle.base_model.specs.Bytes.{part, number_at}
use Rattle.ghes_block.specs.declared.entry.EntryHead.{EntryHead}
use Rattle.ghes_block.specs.declared.writer.BlockWriter.{BlockWriter}
use Rattle.ghes_block.specs.Grammar.{EntryValue, BlockValue, is_stamped, entries_bytes, IsEntry, IsBlock}

-- how many bytes a writer has for the block, and how many of them are in use
abbrev pub room_of : BlockWriter → ℕ
room_of writer = length writer.out.now

abbrev pub used_by : BlockWriter → ℕ
used_by writer = writer.end

abbrev pub status_of : BlockWriter → ℕ
status_of writer = writer.status

abbrev pub severity_of : BlockWriter → ℕ
severity_of writer = writer.severity

-- which slice it writes into
abbrev pub name_of : BlockWriter → GName
name_of writer = writer.out.ghost_name

-- how long an entry is with so many bytes of data
abbrev pub entry_length : EntryHead → ℕ → ℕ
entry_length head len = (if is_stamped head.revision then 72 else 64) + len

-- a writer that stands behind the head, within its room, with a status
pub record IsBlockWriter (writer : BlockWriter) : Type 0 where
  pub behind : 20 ≤ writer.end
  pub room : writer.end ≤ length writer.out.now
  pub short : writer.end < 2 ^ 32
  pub published : 0 < writer.status
  pub status : writer.status < 2 ^ 32
  pub severity : writer.severity < 2 ^ 32

-- nothing was written
pub record IsUnchanged (old new : BlockWriter) : Type 0 where
  pub bytes : new.out.now ≡ old.out.now
  pub used : new.end ≡ old.end

-- the bytes from 20 up to `end` are these entries; behind them they are as before
pub record Writing (before now : List ℕ) (given : List EntryValue) (end : ℕ) : Type 0 where
  pub all : All IsEntry given
  pub content_is : part now 20 (length (entries_bytes given)) ≡ entries_bytes given
  pub end_is : end ≡ 20 + length (entries_bytes given)
  pub room : end ≤ length now
  pub after : drop end now ≡ drop end before

-- the writer has written these entries
abbrev pub IsWriting : List ℕ → List EntryValue → BlockWriter → Type 0
IsWriting before given writer = Writing before writer.out.now given writer.end

-- raw data stands right behind the entries; without raw data the offset is 0
abbrev pub offset_for : ℕ → ℕ → ℕ
offset_for raw_length end = if raw_length == 0 then 0 else end

-- the first bytes are this block, whose raw data stands at the entries' end, with the offset 0 where there is none; the others are
-- as before
pub record IsWritten (block : BlockValue) (end : ℕ) (before now : List ℕ) : Type 0 where
  pub is_block : IsBlock block (take block.size now)
  pub raw_offset : number_at now 4 4 ≡ offset_for (length block.raw) end
  pub after : drop block.size now ≡ drop block.size before
