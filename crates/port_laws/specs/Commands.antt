-- The writes and clears that calls carry out.
use Rattle.std.specs.Prelude.{ℕ, ◌%◌, ◌^◌, ◌==◌, if◌then◌else◌, length, Option, Some, None, Result, Ok}
use Rattle.base_model.specs.Layout.{Layout}
use Rattle.record_model.specs.Records.{Stored}
use Rattle.record_model.specs.RecordMap.{Command, Write, Clear, made_by}
use Rattle.record_store.specs.Store.{Pending, Idle, Writing, Clearing, changes_before_gate}
use Rattle.erst_entries.specs.Actions.{action_of}
use Rattle.erst_device.specs.DeviceState.{records}
use Rattle.erst_device.specs.Effects.{makes_change}
use Rattle.erst_port.specs.declared.errors.PortError.{PortError}
use Rattle.erst_port.specs.declared.windows.Location.{Location}
use Rattle.erst_port.specs.declared.windows.Location.TheVariants.{Action}
use Rattle.erst_port.specs.Places.{location_of}
use Rattle.erst_port.specs.PortState.{PortState}
use Rattle.port_laws.specs.Calls.{Call, Writes}

abbrev pub records_of : PortState → Stored
records_of port = records port.device

-- the command that the next change of what is pending completes: a write is stored by the change that opens its gate
abbrev pub completed_by : Layout → Pending → Option Command
completed_by layout Idle = None
completed_by layout (Writing id bytes slots replaces made) = if made == changes_before_gate layout bytes then Some (Write id bytes) else None
completed_by layout (Clearing id) = Some (Clear id)

abbrev pub completed_at : Location → PortState → (value : ℕ) → Result (Unit {0}) PortError → Option Command
completed_at Action port value (Ok done) =
    if makes_change (action_of (value % 2 ^ 32)) port.device then completed_by port.device.store.layout port.device.store.pending else None
completed_at location port value answer = None

-- the command that a call completes where the flash fails nothing
abbrev pub completed : PortState → Call → Option Command
completed port (Writes window offset width value answer) = completed_at (location_of window (length port.range) offset width) port value answer
completed port call = None

-- the records with it
abbrev pub made_with : Option Command → Stored → Stored
made_with (Some command) stored = made_by command stored
made_with None stored = stored
