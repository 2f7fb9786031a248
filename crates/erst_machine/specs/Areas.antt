-- The machine's memory map, and where an access of it stands.
use Rattle.std.specs.Prelude.{ℕ, ◌+◌, ◌-◌, ◌≤◌, ◌==◌, ◌&&◌, nat_le, nat_lt, if◌then◌else◌, Bool, true, false, List, [], ◌∷◌, map, Option, Some, None, unwrap_or, Result, Ok, Err}
use Rattle.apei_tables.specs.declared.registers.Place.{Place}
use Rattle.apei_tables.specs.declared.registers.Place.TheVariants.{Memory, Io}
use Rattle.apei_tables.specs.declared.widths.Width.{Width}
use Rattle.apei_tables.specs.declared.widths.Width.TheVariants.{B8, B16, B32, B64}
use Rattle.apei_space.specs.declared.windows.Window.{Window}
use Rattle.erst_device.specs.Actions.{log_range_at}
use Rattle.erst_machine.specs.declared.areas.Area.{Area}
use Rattle.erst_machine.specs.declared.areas.Area.TheVariants.{Device, Scratch, LogRange, Handover, BootErrors, Ports}
use Rattle.erst_machine.specs.declared.areas.Location.{Location}
use Rattle.erst_machine.specs.declared.areas.Location.TheVariants.{Inside, Beyond, Nowhere}
use Rattle.erst_machine.specs.declared.areas.Register.{Register}
use Rattle.erst_machine.specs.declared.areas.Register.TheVariants.{Action, Value, NoRegister}

-- where each area begins. In that of the handover its two sides meet
abbrev pub base_of : Area → ℕ
base_of Device = 0x200000
base_of Scratch = 0x1000
base_of LogRange = log_range_at
base_of Handover = 0x300000
base_of BootErrors = 0x400000
base_of Ports = 0x500

-- how many bytes the plain memory and the boot error region have
abbrev pub scratch_len : ℕ
scratch_len = 4096

abbrev pub region_len : ℕ
region_len = 16384

-- how many bytes each area has; the log range has as many as the longest record
abbrev pub size_of : ℕ → Area → ℕ
size_of reach Device = 16
size_of reach Scratch = scratch_len
size_of reach LogRange = reach
size_of reach Handover = 8192
size_of reach BootErrors = region_len
size_of reach Ports = 16

-- whether an address is one of so many from a base on
abbrev pub holds : ℕ → ℕ → ℕ → Bool
holds base size at = nat_le base at && nat_lt at (base + size)

-- n bytes whose first one is in an area: all are in it, or the first that is not has the address behind it
abbrev pub area_location : ℕ → Area → ℕ → ℕ → Option Location
area_location reach area at n =
    let base = base_of area in
    let size = size_of reach area in
    if holds base size at then Some (if nat_le (at + n) (base + size) then Inside area (at - base) else Beyond area (base + size)) else None

-- n bytes in the first of these areas that has the first one
abbrev pub first_location : ℕ → List Area → ℕ → ℕ → Location
first_location reach [] at n = Nowhere at
first_location reach (area ∷ areas) at n = unwrap_or (area_location reach area at n) (first_location reach areas at n)

-- n bytes of memory or of ports. An access of no bytes of memory touches nothing. The device stands first, so that its registers are
-- found by numbers alone
abbrev pub place_location : ℕ → Place → ℕ → Location
place_location reach (Memory at) n =
    if n == 0 then Inside Scratch 0 else first_location reach (Device ∷ Scratch ∷ Handover ∷ BootErrors ∷ LogRange ∷ []) at n
place_location reach (Io at) n = first_location reach (Ports ∷ []) at n

-- n bytes from there on are in the area
abbrev pub IsPlaced : ℕ → ℕ → Location → Type 0
IsPlaced reach n (Inside area start) = start + n ≤ size_of reach area
IsPlaced reach n (Beyond area address) = Unit {0}
IsPlaced reach n (Nowhere address) = Unit {0}

-- the device's registers: ACTION, 4 bytes at 0, and VALUE, 8 bytes at 8
abbrev pub register_at : ℕ → Width → Register
register_at start B8 = NoRegister
register_at start B16 = NoRegister
register_at start B32 = if start == 0 then Action else NoRegister
register_at start B64 = if start == 8 then Value else NoRegister

-- plain memory, between which a copy may copy
abbrev pub is_plain : Area → Bool
is_plain Scratch = true
is_plain LogRange = true
is_plain area = false

-- the whole map as windows
abbrev pub place_of : Area → Place
place_of Device = Memory (base_of Device)
place_of Scratch = Memory (base_of Scratch)
place_of LogRange = Memory (base_of LogRange)
place_of Handover = Memory (base_of Handover)
place_of BootErrors = Memory (base_of BootErrors)
place_of Ports = Io (base_of Ports)

abbrev pub all_windows : ℕ → List Window
all_windows reach =
    map (λ (area : Area). record { place = place_of area; len = size_of reach area }) (Device ∷ Scratch ∷ LogRange ∷ Handover ∷ BootErrors ∷ Ports ∷ [])

-- what an access finds: all its bytes, or the address of the first that is not mapped
abbrev pub finds : Location → Result ℕ ℕ
finds (Inside area start) = Ok start
finds (Beyond area address) = Err address
finds (Nowhere address) = Err address
