-- The record of a slot. It stands in a first slot and in up to three further slots, which the head of the first one names: its
-- bytes fill the room of one slot after another.
use Rattle.std.specs.Prelude.{ℕ, ◌+◌, ◌-◌, Bool, true, ◌==◌, ◌&&◌, nat_lt, if◌then◌else◌, List, [], ◌∷◌, ◌++◌, take, slice_index, Option, Some, None}
use Rattle.record_model.specs.Heads.{Head, gate_further, tail_mark}
use Rattle.record_model.specs.Slots.{part_len, further_of, Slot, slot_at, is_up}

-- a slot has the head and the tail mark of this part of the record whose first slot, k, has this head
unfoldable pub is_part : ℕ → ℕ → Head → ℕ → Slot → Bool
is_part room k head number slot =
    slot.head.gate == gate_further && slot.head.format == 3 && slot.head.generation == head.generation && slot.head.id == head.id
    && slot.head.len == part_len room head.len number && slice_index slot.head.next 0 == number && slice_index slot.head.next 1 == k
    && slot.tail == tail_mark

-- these slots have the parts from this number on
abbrev pub are_parts : ℕ → ℕ → Head → (ℕ → Slot) → ℕ → List ℕ → Bool
are_parts room k head slot number [] = true
are_parts room k head slot number (n ∷ rest) = is_part room k head number (slot n) && are_parts room k head slot (number + 1) rest

-- the bytes of the parts in these slots, from this number on
abbrev pub parts_joined : ℕ → ℕ → (ℕ → Slot) → ℕ → List ℕ → List ℕ
parts_joined room len slot number [] = []
parts_joined room len slot number (n ∷ rest) = take (part_len room len number) (slot n).body ++ parts_joined room len slot (number + 1) rest

-- a slot of the store is live where it is upright and its further slots have its further parts
unfoldable pub is_live : ℕ → ℕ → (ℕ → Slot) → ℕ → Bool
is_live room slots slot k =
    nat_lt k slots && is_up room slots (slot k) && are_parts room k (slot k).head slot 1 (further_of room (slot k).head)

-- a record with its generation, and the further slots that it stands in
pub record Entry : Type 0 where
  pub id : ℕ
  pub generation : ℕ
  pub body : List ℕ
  pub further : List ℕ

-- the record whose first slot is k, where it is live
unfoldable pub record_of : ℕ → (ℕ → Slot) → ℕ → Entry
record_of room slot k = record {
  id = (slot k).head.id;
  generation = (slot k).head.generation;
  body = parts_joined room (slot k).head.len slot 0 (k ∷ further_of room (slot k).head);
  further = further_of room (slot k).head;
}

unfoldable pub entry_of : ℕ → ℕ → (ℕ → Slot) → ℕ → Option Entry
entry_of room slots slot k = if is_live room slots slot k then Some (record_of room slot k) else None

-- the record whose first slot is slot k of an image
unfoldable pub entry_at : ℕ → ℕ → List ℕ → ℕ → Option Entry
entry_at slot_size slots image = entry_of (slot_size - 64) slots (slot_at slot_size image)
