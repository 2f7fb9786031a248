-- Where an item ends and where its parts stand, as far as the bytes go: a part of bytes ends where they end.
use Rattle.std.specs.Prelude.{◌≡◌, ℕ, ◌+◌, ◌*◌, ◌<◌, ◌≤◌, ◌==◌, ◌||◌, nat_lt, max, if◌then◌else◌, List, length, take, drop, Ok}
use Rattle.base_model.specs.Bytes.{part, number_at}
use Rattle.ghes_block.specs.Reading.{head_size}
use Rattle.hest_sources.specs.Layout.{length_by_type}
use Rattle.show_findings.specs.declared.items.Item.{Item}
use Rattle.show_findings.specs.declared.items.Item.TheVariants.{Record, Table, Block}

-- the number in so many bytes at a place, or 0 where they aren't all there
abbrev pub seen_number : List ℕ → ℕ → ℕ → ℕ
seen_number bytes at count = if nat_lt (length bytes) (at + count) then 0 else number_at bytes at count

-- the length that an item says of itself; what it begins with has a least length
abbrev pub raw_end : List ℕ → ℕ
raw_end bytes = if seen_number bytes 8 4 == 0 then 0 else seen_number bytes 4 4 + seen_number bytes 8 4

abbrev pub block_end : List ℕ → ℕ
block_end bytes = max (20 + seen_number bytes 12 4) (raw_end bytes)

abbrev pub told : Item → List ℕ → ℕ
told Record bytes = seen_number bytes 20 4
told Table bytes = seen_number bytes 4 4
told Block bytes = block_end bytes

abbrev pub least : Item → ℕ
least Record = 128
least Table = 36
least Block = 20

-- as many as it says, or all where that is below the least or above what is there
abbrev pub claimed : (least told have : ℕ) → ℕ
claimed least told have = if nat_lt told least || nat_lt have told then have else told

abbrev pub item_len : Item → List ℕ → ℕ
item_len item bytes = claimed (least item) (told item bytes) (length bytes)

-- a section of this index is counted, and its descriptor is there
pub record HasSection (bytes : List ℕ) (index : ℕ) : Type 0 where
  pub counted : index < seen_number bytes 10 2
  pub within : 128 + 72 * index + 72 ≤ length bytes

-- where it stands, and its body by its descriptor
pub record IsSection (bytes : List ℕ) (index at : ℕ) (descriptor : List ℕ) (body_at : ℕ) (body : List ℕ) : Type 0 where
  pub place : at ≡ 128 + 72 * index
  pub head : descriptor ≡ part bytes (128 + 72 * index) 72
  pub offset : body_at ≡ number_at bytes (128 + 72 * index) 4
  pub content : body ≡ part bytes (number_at bytes (128 + 72 * index) 4) (number_at bytes (128 + 72 * index + 4) 4)

-- a block without its raw data
abbrev pub data_part : List ℕ → List ℕ
data_part block = take (20 + seen_number block 12 4) block

-- so many bytes are left for a head
abbrev pub HasDataEntry : List ℕ → ℕ → Type 0
HasDataEntry block at = at + 64 ≤ length (data_part block)

pub record IsDataEntry (block : List ℕ) (at : ℕ) (head : List ℕ) (body_at : ℕ) (body : List ℕ) (next : ℕ) : Type 0 where
  pub head_is : head ≡ part (data_part block) at (head_size (drop at (data_part block)))
  pub offset : body_at ≡ at + head_size (drop at (data_part block))
  pub content : body ≡ part (data_part block) body_at (number_at (drop at (data_part block)) 24 4)
  pub behind : next ≡ body_at + number_at (drop at (data_part block)) 24 4

-- an instruction entry of this index is counted, and it is there
pub record HasInstruction (table : List ℕ) (index : ℕ) : Type 0 where
  pub counted : index < seen_number table 44 4
  pub within : 48 + 32 * index + 32 ≤ length table

-- the length of an error source structure is known by its type
abbrev pub IsLength : ℕ → List ℕ → ℕ → Type 0
IsLength kind bytes size = length_by_type kind 0 bytes ≡ Ok size

abbrev pub NoLength : ℕ → List ℕ → Type 0
NoLength kind bytes = (size : ℕ) → ¬ IsLength kind bytes size

pub record IsSource (table : List ℕ) (at kind : ℕ) (bytes : List ℕ) (next : ℕ) : Type 0 where
  pub within : at + 2 ≤ length table
  pub kind_is : kind ≡ number_at (drop at table) 0 2
  pub size : ℕ
  pub known : IsLength kind (drop at table) size
  pub content : bytes ≡ part table at size
  pub behind : next ≡ at + size

abbrev pub IsNoSource : List ℕ → ℕ → Type 0
IsNoSource table at = at + 2 ≤ length table → NoLength (number_at (drop at table) 0 2) (drop at table)
