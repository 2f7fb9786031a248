-- What stands in a slot while a part of a record is written into it.
use Rattle.std.specs.Prelude.{◌≡◌, ◌≢◌, ℕ, zero, suc, ◌+◌, ◌-◌, ◌*◌, ◌<◌, min, List, [], ◌∷◌, length, take, drop}
use Rattle.base_model.specs.Bytes.{part}
use Rattle.base_model.specs.Flash.{IsErased}
use Rattle.base_model.specs.Layout.{Layout}
use Rattle.record_model.specs.Records.{Head, head_at, head_fields, head_bytes, tail_at, part_len, named, gate_further, tail_mark, gate_closed, not_killed}

-- a slot that is to be filled: the head that it gets, and the bytes of its part
pub record Target : Type 0 where
  pub slot : ℕ
  pub head : Head
  pub bytes : List ℕ

-- the first slot of a record, behind a closed gate
abbrev pub first_target : ℕ → ℕ → ℕ → ℕ → List ℕ → List ℕ → Target
first_target room k id generation further body = record {
  slot = k;
  head = record { gate = gate_closed; kill = not_killed; format = 2; generation = generation; id = id; len = length body; next = named further };
  bytes = part body 0 (part_len room (length body) 0);
}

-- a further slot of it
abbrev pub part_target : ℕ → ℕ → ℕ → ℕ → List ℕ → ℕ → ℕ → Target
part_target room k id generation body number slot = record {
  slot = slot;
  head = record {
    gate = gate_further;
    kill = not_killed;
    format = 3;
    generation = generation;
    id = id;
    len = part_len room (length body) number;
    next = number ∷ k ∷ 0xFFFF ∷ [];
  };
  bytes = part body (number * room) (part_len room (length body) number);
}

-- the first sectors of the slot are erased; before the first one is, the tail mark is not set
pub record IsCleanFromHead (slot_size sector slot done : ℕ) (image : List ℕ) : Type 0 where
  pub unmarked : done ≡ 0 → tail_at image (slot * slot_size) slot_size ≢ tail_mark
  pub erased : IsErased image (slot * slot_size) (done * sector)

-- the last sectors of the slot are erased; before the last one is, the tail mark is set
pub record IsCleanFromTail (slot_size sector per_slot slot done : ℕ) (image : List ℕ) : Type 0 where
  pub marked : done ≡ 0 → tail_at image (slot * slot_size) slot_size ≡ tail_mark
  pub erased : IsErased image (slot * slot_size + (per_slot - done) * sector) (done * sector)

-- the head and the first bytes of the part stand, and the rest of the slot is erased
pub record IsBegun (slot_size : ℕ) (target : Target) (count : ℕ) (image : List ℕ) : Type 0 where
  pub head : head_at image (target.slot * slot_size) ≡ target.head
  pub begun : part image (target.slot * slot_size + 32) count ≡ take count target.bytes
  pub rest : IsErased image (target.slot * slot_size + 32 + count) (slot_size - 32 - count)

-- the slot is filled
pub record IsFilled (slot_size : ℕ) (target : Target) (image : List ℕ) : Type 0 where
  pub head : head_at image (target.slot * slot_size) ≡ target.head
  pub bytes : part image (target.slot * slot_size + 32) (length target.bytes) ≡ target.bytes
  pub tail : tail_at image (target.slot * slot_size) slot_size ≡ tail_mark

-- the next change of a slot that is filled
pub data Step : Type 0 where
  EraseFromHead : (done : ℕ) → Step
  EraseFromTail : (done : ℕ) → Step
  PutHead : Step
  Piece : (piece : ℕ) → Step
  TailMark : Step

-- what stands in the slot before it
abbrev pub StandsAt : Layout → Target → List ℕ → Step → Type 0
StandsAt layout target image (EraseFromHead done) = IsCleanFromHead layout.slot_size layout.sector target.slot done image
StandsAt layout target image (EraseFromTail done) = IsCleanFromTail layout.slot_size layout.sector layout.per_slot target.slot done image
StandsAt layout target image PutHead = IsErased image (target.slot * layout.slot_size) layout.slot_size
StandsAt layout target image (Piece piece) = IsBegun layout.slot_size target (256 * piece) image
StandsAt layout target image TailMark = IsBegun layout.slot_size target (length target.bytes) image

-- the form of a step in a slot that gets so many bytes
abbrev pub IsStep : Layout → ℕ → Step → Type 0
IsStep layout len (EraseFromHead done) = done < layout.per_slot
IsStep layout len (EraseFromTail done) = done < layout.per_slot
IsStep layout len PutHead = Unit {0}
IsStep layout len (Piece piece) = 256 * piece < len
IsStep layout len TailMark = Unit {0}

-- the range of the change of a step, in the slot of a first part or of another one
abbrev pub place_of : Layout → ℕ → Target → Step → ℕ
place_of layout number target (EraseFromHead done) = target.slot * layout.slot_size + done * layout.sector
place_of layout number target (EraseFromTail done) = target.slot * layout.slot_size + (layout.per_slot - 1 - done) * layout.sector
place_of layout zero target PutHead = target.slot * layout.slot_size + 2
place_of layout (suc n) target PutHead = target.slot * layout.slot_size
place_of layout number target (Piece piece) = target.slot * layout.slot_size + 32 + 256 * piece
place_of layout number target TailMark = target.slot * layout.slot_size + (layout.slot_size - 1)

abbrev pub len_of : Layout → Target → Step → ℕ
len_of layout target (EraseFromHead done) = layout.sector
len_of layout target (EraseFromTail done) = layout.sector
len_of layout target PutHead = 24
len_of layout target (Piece piece) = min 256 (length target.bytes - 256 * piece)
len_of layout target TailMark = 1

-- what stands there once the change is made
abbrev pub IsWritten : Layout → ℕ → Target → Step → List ℕ → Type 0
IsWritten layout number target (EraseFromHead done) image = IsErased image (target.slot * layout.slot_size + done * layout.sector) layout.sector
IsWritten layout number target (EraseFromTail done) image = IsErased image (target.slot * layout.slot_size + (layout.per_slot - 1 - done) * layout.sector) layout.sector
IsWritten layout zero target PutHead image = part image (target.slot * layout.slot_size + 2) 24 ≡ head_fields target.head
IsWritten layout (suc n) target PutHead image = part image (target.slot * layout.slot_size) 24 ≡ take 24 (head_bytes target.head)
IsWritten layout number target (Piece piece) image =
    part image (target.slot * layout.slot_size + 32 + 256 * piece) (min 256 (length target.bytes - 256 * piece))
    ≡ take (min 256 (length target.bytes - 256 * piece)) (drop (256 * piece) target.bytes)
IsWritten layout number target TailMark image = tail_at image (target.slot * layout.slot_size) layout.slot_size ≡ tail_mark
