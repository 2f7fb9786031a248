-- How wide an access of a register is.
use Rattle.std.specs.Prelude.{ℕ, nat_le, if◌then◌else◌, ◌==◌}
use Rattle.apei_tables.specs.declared.widths.Width.{Width}
use Rattle.apei_tables.specs.declared.widths.Width.TheVariants.{B8, B16, B32, B64}

-- how many bits an access of this width moves
abbrev pub bits : Width → ℕ
bits B8 = 8
bits B16 = 16
bits B32 = 32
bits B64 = 64

-- the bits that an access size code names: 1 to 4 are 8, 16, 32 and 64, and 0 leaves the size open
abbrev pub bits_of_code : ℕ → ℕ
bits_of_code code = if code == 0 then 0 else (if code == 1 then 8 else (if code == 2 then 16 else (if code == 3 then 32 else 64)))

-- the narrowest width of at least n bits, for n up to 64
abbrev pub narrowest : ℕ → Width
narrowest n = if nat_le n 8 then B8 else (if nat_le n 16 then B16 else (if nat_le n 32 then B32 else B64))
