-- What makes a device tell FAILED no longer.
use Rattle.std.specs.Prelude.{◌≡◌, ◌%◌, ◌^◌, length, Option, Some, None}
use Rattle.erst_entries.specs.declared.actions.Action.{Action}
use Rattle.erst_entries.specs.Actions.{action_of}
use Rattle.erst_device.specs.declared.registers.Operation.{Operation}
use Rattle.erst_device.specs.Actions.{begun_by}
use Rattle.erst_port.specs.declared.windows.Location.TheVariants.{Action as ActionRegister}
use Rattle.erst_port.specs.Places.{location_of}
use Rattle.erst_port.specs.PortState.{PortState}
use Rattle.port_laws.specs.Calls.{Call, Writes, Restarts}

-- an action begins an operation
abbrev pub IsBegin : Option Action → Type 0
IsBegin None = ⊥
IsBegin (Some action) = (operation : Operation) × (begun_by action ≡ Some operation)

-- a call that writes the code of such an action to ACTION, or restarts the device
abbrev pub Forgets : PortState → Call → Type 0
Forgets port (Writes window offset width value answer) = (location_of window (length port.range) offset width ≡ ActionRegister) × IsBegin (action_of (value % 2 ^ 32))
Forgets port (Restarts answer) = Unit {0}
Forgets port call = ⊥
