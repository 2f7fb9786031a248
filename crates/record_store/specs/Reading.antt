-- The bytes that a record is read from.
use Rattle.std.specs.Prelude.{ℕ, zero, suc, ◌-◌, List, slice_index}
use Rattle.record_model.specs.Records.{slot_at, parts_joined}
use Rattle.record_slots.specs.declared.found.SlotOf.{SlotOf}
use Rattle.record_store.specs.Index.{slots_at}

-- the slot of a part
abbrev pub slot_of_part : SlotOf → ℕ → ℕ
slot_of_part place zero = place.slot
slot_of_part place (suc n) = slice_index place.next n

-- the bytes that stand in the slots of a place
abbrev pub bytes_at : ℕ → List ℕ → SlotOf → List ℕ
bytes_at slot_size image place =
    parts_joined (slot_size - 64) place.len (slot_at slot_size image) 0 (slots_at (slot_size - 64) place)
