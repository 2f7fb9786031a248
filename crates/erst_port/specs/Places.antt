-- Where a number or bytes stand in the two windows of a port.
use Rattle.std.specs.Prelude.{ℕ, ◌+◌, ◌/◌, ◌^◌, ◌≤◌, ◌==◌, ◌&&◌, ◌||◌, nat_le, nat_lt, Bool, if◌then◌else◌}
use Rattle.apei_tables.specs.declared.widths.Width.{Width}
use Rattle.apei_tables.specs.declared.widths.Width.TheVariants.{B8, B16, B32, B64}
use Rattle.apei_tables.specs.Access.{bits}
use Rattle.erst_port.specs.declared.windows.Window.{Window}
use Rattle.erst_port.specs.declared.windows.Window.TheVariants.{Registers, LogRange}
use Rattle.erst_port.specs.declared.windows.Addresses.{Addresses}
use Rattle.erst_port.specs.declared.windows.Location.{Location}
use Rattle.erst_port.specs.declared.windows.Location.TheVariants.{Action, Value, LowHalf, HighHalf, Bytes, Nowhere}

-- the bytes of the window of the registers
abbrev pub registers_size : ℕ
registers_size = 16

-- ACTION stands at 0 and is 32 bits wide. VALUE stands at 8 and is 64 bits wide, or two halves of 32
abbrev pub register_location : (offset : ℕ) → Width → Location
register_location offset B8 = Nowhere
register_location offset B16 = Nowhere
register_location offset B32 = if offset == 0 then Action else (if offset == 8 then LowHalf else (if offset == 12 then HighHalf else Nowhere))
register_location offset B64 = if offset == 8 then Value else Nowhere

-- n bytes from an offset on, in a log range of so many bytes
abbrev pub range_location : (size offset n : ℕ) → Location
range_location size offset n = if nat_le (offset + n) size then Bytes offset else Nowhere

abbrev pub location_of : Window → (size offset : ℕ) → Width → Location
location_of Registers size offset width = register_location offset width
location_of LogRange size offset width = range_location size offset (bits width / 8)

-- n bytes from there on are in the log range
abbrev pub IsPlaced : (size n : ℕ) → Location → Type 0
IsPlaced size n (Bytes start) = start + n ≤ size
IsPlaced size n Action = Unit {0}
IsPlaced size n Value = Unit {0}
IsPlaced size n LowHalf = Unit {0}
IsPlaced size n HighHalf = Unit {0}
IsPlaced size n Nowhere = Unit {0}

-- whether both windows end below 2^64, and neither reaches into the other, with a log range of so many bytes
unfoldable pub are_apart : (size : ℕ) → Addresses → Bool
are_apart size addresses =
    nat_lt (addresses.registers + registers_size) (2 ^ 64) && nat_lt (addresses.range + size) (2 ^ 64)
    && (nat_le (addresses.registers + registers_size) addresses.range || nat_le (addresses.range + size) addresses.registers)
