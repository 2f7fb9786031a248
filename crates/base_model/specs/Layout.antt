-- How a store divides its flash into slots.
use Rattle.std.specs.Prelude.{◌≡◌, ℕ, ◌*◌, ◌-◌, ◌≤◌, min}

-- slots one after another, each of so many sectors of so many bytes. A slot has 64 bytes of its own, a head of 32 and at
-- the end another 32; the rest of it is room for a record
pub record Layout : Type 0 where
  pub sector : ℕ
  pub per_slot : ℕ
  pub slots : ℕ
  pub slot_size : ℕ
  pub product : slot_size ≡ sector * per_slot
  pub least_sector : 256 ≤ sector
  pub few_sectors : 2 ≤ per_slot
  pub few_slots : 2 ≤ slots
  pub many_slots : slots ≤ 1024
  pub least_slot : 512 ≤ slot_size
  pub greatest_slot : slot_size ≤ 65600

abbrev pub room_of : Layout → ℕ
room_of layout = layout.slot_size - 64

-- the length of the longest record, for slots of this room: it may take up to four of them
unfoldable pub reach_of : ℕ → ℕ
reach_of room = min (4 * room) 65536
