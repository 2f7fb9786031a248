-- What the header's numbers stand for.
use Rattle.std.specs.Prelude.{ℕ, ◌==◌, if◌then◌else◌, Option, Some, None}
use Rattle.apei_tables.specs.declared.widths.Width.{Width}
use Rattle.apei_tables.specs.declared.widths.Width.TheVariants.{B8, B16, B32, B64}
use Rattle.erst_port.specs.declared.windows.Window.{Window}
use Rattle.erst_port.specs.declared.windows.Window.TheVariants.{Registers, LogRange}
use Rattle.erst_port.specs.declared.windows.Addresses.{Addresses}
use Rattle.item_parts.specs.declared.items.Item.{Item}
use Rattle.item_parts.specs.declared.items.Item.TheVariants.{Erst, Hest, Bert, Record, Block}
use Rattle.apei_c.specs.declared.structs.WindowAddresses.{WindowAddresses}

abbrev pub window_of : ℕ → Option Window
window_of number = if number == 0 then Some Registers else (if number == 1 then Some LogRange else None)

-- the width of a number of so many bytes
abbrev pub width_of : ℕ → Option Width
width_of bytes =
    if bytes == 1 then Some B8 else (if bytes == 2 then Some B16 else (if bytes == 4 then Some B32 else (if bytes == 8 then Some B64 else None)))

abbrev pub item_of : ℕ → Option Item
item_of number =
    if number == 0 then Some Erst
    else (if number == 1 then Some Hest
    else (if number == 2 then Some Bert
    else (if number == 3 then Some Record
    else (if number == 4 then Some Block else None))))

abbrev pub addresses_of : WindowAddresses → Addresses
addresses_of addresses = record { registers = addresses.registers; range = addresses.range }
