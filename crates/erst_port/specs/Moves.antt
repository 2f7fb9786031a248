-- A port's windows at other addresses.
use Rattle.std.specs.Prelude.{◌≡◌, ◌⊎◌, true, false, length, Result, Ok, Err}
use Rattle.erst_entries.specs.Layout.{spelling}
use Rattle.erst_port.specs.declared.windows.Addresses.{Addresses}
use Rattle.erst_port.specs.declared.errors.BadAddresses.{BadAddresses}
use Rattle.erst_port.specs.Places.{are_apart}
use Rattle.erst_port.specs.PortState.{PortState}
use Rattle.erst_port.specs.PortTables.{port_erst}

-- the windows stand there, and the table says so, unless they would overlap or not end below 2^64
abbrev pub Moves : PortState → Addresses → Result (Unit {0}) BadAddresses → PortState → Type 0
Moves old addresses answer new =
    ((are_apart (length old.range) addresses ≡ false) × (answer ≡ Err (record {})) × (new ≡ old))
    ⊎ ((are_apart (length old.range) addresses ≡ true) × (answer ≡ Ok tt) × (new ≡ record old { addresses = addresses; table = spelling (port_erst addresses.registers) }))
