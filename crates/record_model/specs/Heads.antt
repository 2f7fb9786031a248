-- The head and the tail mark of a slot.
use Rattle.std.specs.Prelude.{ℕ, ◌+◌, ◌-◌, ◌^◌, Bool, true, ◌==◌, if◌then◌else◌, List, [], ◌∷◌, map, replicate}
use Rattle.base_model.specs.Bytes.{number_at, spelled, joined}

-- the head of a slot as numbers: the gate at 0, the kill mark at 1, the format at 2, the generation at 4, the identifier
-- at 8, a length in bytes at 16, and three numbers of 2 bytes at 20. In a first slot these name its further slots. In a
-- further slot the first two are the number of its part and that of its first slot
pub record Head : Type 0 where
  pub gate : ℕ
  pub kill : ℕ
  pub format : ℕ
  pub generation : ℕ
  pub id : ℕ
  pub len : ℕ
  pub next : List ℕ

-- the gate of a first slot that holds a record, and of one that is being filled, as an erased flash has it
abbrev pub gate_open : ℕ
gate_open = 0x5A

abbrev pub gate_closed : ℕ
gate_closed = 0xFF

-- what stands in place of the gate in a further slot
abbrev pub gate_further : ℕ
gate_further = 0x3C

-- the kill mark of a slot that is killed, and of one that is not, as an erased flash has it
abbrev pub kill_mark : ℕ
kill_mark = 0x00

abbrev pub not_killed : ℕ
not_killed = 0xFF

-- the tail mark of a slot that is filled
abbrev pub tail_mark : ℕ
tail_mark = 0xA5

-- the head at a place
unfoldable pub head_at : List ℕ → ℕ → Head
head_at image place = record {
  gate = number_at image place 1;
  kill = number_at image (place + 1) 1;
  format = number_at image (place + 2) 2;
  generation = number_at image (place + 4) 4;
  id = number_at image (place + 8) 8;
  len = number_at image (place + 16) 4;
  next = number_at image (place + 20) 2 ∷ number_at image (place + 22) 2 ∷ number_at image (place + 24) 2 ∷ [];
}

-- the tail mark of the slot at a place
unfoldable pub tail_at : List ℕ → ℕ → ℕ → ℕ
tail_at image place slot_size = number_at image (place + (slot_size - 1)) 1

-- bytes 2 to 25 of a slot with this head
unfoldable pub head_fields : Head → List ℕ
head_fields head = joined (spelled 2 head.format ∷ spelled 4 head.generation ∷ spelled 8 head.id ∷ spelled 4 head.len ∷ map (spelled 2) head.next)

-- the 32 bytes that a slot with this head begins with
unfoldable pub head_bytes : Head → List ℕ
head_bytes head = joined ((head.gate ∷ head.kill ∷ []) ∷ head_fields head ∷ replicate 6 0xFF ∷ [])

-- identifiers that no record has: the first and the last number of 64 bits
unfoldable pub is_reserved : ℕ → Bool
is_reserved id = if id == 0 then true else (id == 2 ^ 64 - 1)
