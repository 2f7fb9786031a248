-- The limits of a store's geometry.
use Rattle.std.specs.Prelude.{ℕ, ◌+◌, ◌*◌, ◌^◌, ◌≤◌, ◌==◌, IsTrue, [], ◌∷◌}
use Rattle.std.specs.List.{list_any}

-- a power of two from 256 to 32,768
abbrev pub IsSectorSize : ℕ → Type 0
IsSectorSize sector = IsTrue (list_any (λ size. size == sector) (256 ∷ 512 ∷ 1024 ∷ 2048 ∷ 4096 ∷ 8192 ∷ 16384 ∷ 32768 ∷ []))

-- sectors of this size in bytes, this many a slot, this many slots: an image has at most 64 MiB, and the room of a slot,
-- what it has beside 64 bytes of its own, is at most 65,536 bytes
pub record IsGeometry (sector per_slot slots : ℕ) : Type 0 where
  pub sector_size : IsSectorSize sector
  pub few_sectors : 2 ≤ per_slot
  pub many_sectors : per_slot ≤ 16
  pub few_slots : 2 ≤ slots
  pub many_slots : slots ≤ 1024
  pub image : sector * per_slot * slots ≤ 2 ^ 26
  pub greatest_room : sector * per_slot ≤ 65536 + 64
