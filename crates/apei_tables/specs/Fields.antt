-- The field of a register, and what a store into it writes (ACPI 6.4, section 18.5): whole numbers, modulo 2 ^ 64.
use Rattle.std.specs.Prelude.{ℕ, ◌-◌, ◌*◌, ◌/◌, ◌%◌, ◌^◌, bit_and, bit_or}

-- what was read, moved down to the field's first bit, and then masked
abbrev pub field : ℕ → ℕ → ℕ → ℕ
field read offset mask = bit_and (read / 2 ^ offset) mask

-- the value, masked and then moved up to the field's first bit
abbrev pub stored : ℕ → ℕ → ℕ → ℕ
stored value offset mask = bit_and value mask * 2 ^ offset % 2 ^ 64

-- the same beside those bits of what was read that the mask, moved up, doesn't cover
abbrev pub merged : ℕ → ℕ → ℕ → ℕ → ℕ
merged read value offset mask = bit_or (stored value offset mask) (bit_and read (2 ^ 64 - 1 - mask * 2 ^ offset % 2 ^ 64))
