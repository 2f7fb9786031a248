-- What an error status block is: a head, entries one after another, and raw data behind them.
use Rattle.std.specs.Prelude.{◌≡◌, ℕ, ◌+◌, ◌/◌, ◌^◌, ◌<◌, ◌≤◌, List, [], ◌∷◌, ◌++◌, length, All, Bool, false, nat_le, if◌then◌else◌}
use Rattle.std.specs.List.{flat_map}
use Rattle.base_model.specs.Bytes.{part, spelled, joined}
use Rattle.ghes_block.specs.declared.entry.EntryHead.{EntryHead}

-- an entry: what its head says, and its data
pub record EntryValue : Type 0 where
  pub head : EntryHead
  pub body : List ℕ

-- a block: its entries in order, its raw data, and how many bytes it has
pub record BlockValue : Type 0 where
  pub status : ℕ
  pub severity : ℕ
  pub entries : List EntryValue
  pub raw : List ℕ
  pub size : ℕ

-- an entry of a revision from 3 on has a timestamp
abbrev pub is_stamped : ℕ → Bool
is_stamped revision = nat_le 3 (revision / 256)

-- the fields of an entry's head, 64 bytes, with so many bytes of data
abbrev pub entry_front : EntryHead → ℕ → List (List ℕ)
entry_front head len =
    head.kind
    ∷ spelled 4 head.severity
    ∷ spelled 2 head.revision
    ∷ spelled 1 head.validation
    ∷ spelled 1 head.flags
    ∷ spelled 4 len
    ∷ head.fru
    ∷ head.fru_text
    ∷ []

-- an entry's bytes: the head, the timestamp where there is one, the data
unfoldable pub entry_bytes : EntryValue → List ℕ
entry_bytes entry =
    joined (entry_front entry.head (length entry.body))
    ++ (if is_stamped entry.head.revision then spelled 8 entry.head.stamp else []) ++ entry.body

unfoldable pub entries_bytes : List EntryValue → List ℕ
entries_bytes entries = flat_map entry_bytes entries

-- each number of an entry's head fits its field, and each array has its length. The timestamp is 0 where the entry has none
pub record IsEntryHead (head : EntryHead) : Type 0 where
  pub kind : length head.kind ≡ 16
  pub severity : head.severity < 2 ^ 32
  pub revision : head.revision < 2 ^ 16
  pub validation : head.validation < 2 ^ 8
  pub flags : head.flags < 2 ^ 8
  pub fru : length head.fru ≡ 16
  pub fru_text : length head.fru_text ≡ 20
  pub stamp : head.stamp < 2 ^ 64
  pub no_stamp : is_stamped head.revision ≡ false → head.stamp ≡ 0

pub record IsEntry (entry : EntryValue) : Type 0 where
  pub head : IsEntryHead entry.head
  pub short : length entry.body < 2 ^ 32

-- the raw data is a part behind the entries, at which the block ends; without raw data the block ends with the entries
abbrev pub RawIs : List ℕ → List ℕ → ℕ → ℕ → Type 0
RawIs bytes [] offset data_len = length bytes ≡ 20 + data_len
RawIs bytes (byte ∷ raw) offset data_len = (20 + data_len ≤ offset) × (length bytes ≡ offset + length (byte ∷ raw)) × (byte ∷ raw ≡ part bytes offset (length (byte ∷ raw)))

-- the bytes are exactly this block
pub record IsBlock (value : BlockValue) (bytes : List ℕ) : Type 0 where
  pub published : 0 < value.status
  pub status : value.status < 2 ^ 32
  pub severity : value.severity < 2 ^ 32
  pub entries : All IsEntry value.entries
  pub data_short : length (entries_bytes value.entries) < 2 ^ 32
  pub raw : length value.raw < 2 ^ 32
  pub size : value.size ≡ length bytes
  pub spelling : (offset : ℕ) × (rest : List ℕ) × (offset < 2 ^ 32)
      × (bytes ≡ joined
      (spelled 4 value.status ∷ spelled 4 offset ∷ spelled 4 (length value.raw)
      ∷ spelled 4 (length (entries_bytes value.entries)) ∷ spelled 4 value.severity ∷ [])
      ++ entries_bytes value.entries ++ rest)
      × RawIs bytes value.raw offset (length (entries_bytes value.entries))
