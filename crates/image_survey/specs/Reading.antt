-- The record of a first slot, and the slots that it is read from.
use Rattle.std.specs.Prelude.{◌≡◌, ℕ, zero, suc, List, Some, slice_index}
use Rattle.std.specs.FinMap.{get}
use Rattle.record_model.specs.Records.{Head, slot_at, stored_in}

-- the slot of a part
abbrev pub slot_of_part : ℕ → Head → ℕ → ℕ
slot_of_part first head zero = first
slot_of_part first head (suc n) = slice_index head.next n

-- the bytes are those of the record that a boot finds under the identifier in the head of slot k, in the generation there
abbrev pub IsRecordOf : ℕ → ℕ → List ℕ → ℕ → List ℕ → Type 0
IsRecordOf slot_size slots image k bytes =
    get (stored_in slot_size slots image) (slot_at slot_size image k).head.id ≡ Some (bytes, (slot_at slot_size image k).head.generation)
