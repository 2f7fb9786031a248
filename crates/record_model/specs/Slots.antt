-- Slots, and which of them are upright. Slot k is the slot_size bytes from k * slot_size on: a head, room for a body from byte 32
-- on, and the tail mark as the last byte.
use Rattle.std.specs.Prelude.{ℕ, ◌+◌, ◌-◌, ◌*◌, ◌/◌, min, Bool, ◌==◌, ◌&&◌, ◌||◌, not, nat_lt, nat_le, List, take, drop}
use Rattle.std.specs.List.{list_all}
use Rattle.base_model.specs.Layout.{reach_of}
use Rattle.base_model.specs.Bytes.{part}
use Rattle.record_model.specs.Heads.{Head, head_at, tail_at, is_reserved, gate_open, tail_mark, not_killed}

-- the parts of a record of so many bytes: each fills the room of a slot, but for the last, which has the rest
unfoldable pub parts_of : ℕ → ℕ → ℕ
parts_of room len = (len + (room - 1)) / room

unfoldable pub part_len : ℕ → ℕ → ℕ → ℕ
part_len room len number = min room (len - number * room)

-- the further slots that the head of a first slot names
unfoldable pub further_of : ℕ → Head → List ℕ
further_of room head = take (parts_of room head.len - 1) head.next

-- the form of a first slot that names its further slots: the numbers behind theirs are unused
unfoldable pub is_spread : ℕ → ℕ → Head → Bool
is_spread room slots head =
    head.format == 2 && nat_le head.len (reach_of room)
    && list_all (λ n. nat_lt n slots) (further_of room head) && list_all (λ n. n == 0xFFFF) (drop (parts_of room head.len - 1) head.next)

-- a slot is upright by its own head and tail mark: gate open, not killed, tail mark set, a length and an identifier that a
-- record can have, and one of the two forms: that of a record which fits one slot, or that of one which names its further slots
unfoldable pub is_upright : ℕ → ℕ → Head → ℕ → Bool
is_upright room slots head tail =
    head.gate == gate_open && head.kill == not_killed && tail == tail_mark && nat_le 128 head.len && not (is_reserved head.id)
    && ((head.format == 1 && nat_le head.len room) || is_spread room slots head)

-- what is seen of a slot: its head, its tail mark, and the bytes of its room
pub record Slot : Type 0 where
  pub head : Head
  pub tail : ℕ
  pub body : List ℕ

unfoldable pub slot_at : ℕ → List ℕ → ℕ → Slot
slot_at slot_size image k = record {
  head = head_at image (k * slot_size);
  tail = tail_at image (k * slot_size) slot_size;
  body = part image (k * slot_size + 32) (slot_size - 64);
}

unfoldable pub is_up : ℕ → ℕ → Slot → Bool
is_up room slots slot = is_upright room slots slot.head slot.tail
