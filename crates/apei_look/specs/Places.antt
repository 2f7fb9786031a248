-- Where the slots of a flash stand in its file.
use Rattle.std.specs.Prelude.{◌≡◌, ℕ, ◌+◌, ◌-◌, ◌*◌, ◌/◌, ◌<◌, ◌≤◌, Bool, true, false, Option, Some, None}
use Rattle.flash_model.specs.declared.geometry.Geometry.{Geometry}

-- a medium has one sector before its flash
abbrev pub flash_at : (is_medium : Bool) → Geometry → ℕ
flash_at true geometry = geometry.sector
flash_at false geometry = 0

abbrev pub place_of_slot : (is_medium : Bool) → Geometry → (slot : ℕ) → ℕ
place_of_slot is_medium geometry slot = flash_at is_medium geometry + slot * geometry.slot_size

abbrev pub file_size : (is_medium : Bool) → Geometry → ℕ
file_size is_medium geometry = flash_at is_medium geometry + geometry.slot_size * geometry.slots

-- the slot in which so many bytes end
abbrev pub IsEnd : (is_medium : Bool) → Geometry → (held : ℕ) → Option ℕ → Type 0
IsEnd is_medium geometry held None = held < flash_at is_medium geometry
IsEnd is_medium geometry held (Some slot) =
    (flash_at is_medium geometry ≤ held) × (slot ≡ (held - flash_at is_medium geometry) / geometry.slot_size)
