-- What a memory device says of itself (type 17; DSP0134, 7.18).
use Rattle.std.specs.Prelude.{◌≡◌, ℕ, ◌*◌, ◌+◌, ◌%◌, ◌^◌, length, nat_le, nat_lt, ◌==◌, Option, Some, None, if◌then◌else◌, option_map}
use Rattle.base_model.specs.Bytes.{number_at}
use Rattle.smbios.specs.declared.memory.MemoryDevice.{MemoryDevice}
use Rattle.smbios.specs.Structures.{Pair}
use Rattle.smbios.specs.Texts.{IsTextAt}

-- the number in so many bytes at a place of the formatted area, and one that says that it is not known if they are not there
abbrev pub field : Pair → ℕ → ℕ → ℕ → ℕ
field one at count unknown = if nat_le (at + count) (length one.formatted) then number_at one.formatted at count else unknown

-- the size in units of 1,024 bytes. 2^16 - 1 stands for an unknown one, 2^15 - 1 for the size in the extended field, in megabytes; else
-- the highest bit tells the unit
abbrev pub size_of : Pair → Option ℕ
size_of one =
    let told = field one 12 2 0xFFFF in
    if told == 0xFFFF then None
    else if told == 0x7FFF then Some (1024 * (field one 28 4 0 % 2 ^ 31))
    else if nat_lt told 0x8000 then Some (1024 * told)
    else Some (told % 0x8000)

-- the greatest speed in megatransfers a second. 0 stands for an unknown one, 2^16 - 1 for the one in the extended field
abbrev pub speed_of : Pair → Option ℕ
speed_of one =
    let told = field one 21 2 0 in
    let speed = if told == 0xFFFF then field one 84 4 0 % 2 ^ 31 else told in
    if speed == 0 then None else Some speed

pub record IsMemoryDevice (one : Pair) (device : MemoryDevice) : Type 0 where
  pub locator : IsTextAt one 16 (option_map (λ it. it.now) device.locator)
  pub bank : IsTextAt one 17 (option_map (λ it. it.now) device.bank)
  pub maker : IsTextAt one 23 (option_map (λ it. it.now) device.maker)
  pub serial : IsTextAt one 24 (option_map (λ it. it.now) device.serial)
  pub part_number : IsTextAt one 26 (option_map (λ it. it.now) device.part_number)
  pub size : device.size ≡ size_of one
  pub speed : device.speed ≡ speed_of one
