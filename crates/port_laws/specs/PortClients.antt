-- The table of a port, and the client that attaching to it finds.
use Rattle.std.specs.Prelude.{◌≡◌, ℕ, ◌+◌, Result, Ok}
use Rattle.record_model.specs.RecordMap.{Command, after}
use Rattle.apei_space.specs.Calls.{Call}
use Rattle.erst_client.specs.declared.errors.AttachError.{AttachError}
use Rattle.erst_client.specs.Commands.{ClientState}
use Rattle.erst_device.specs.DeviceState.{records}
use Rattle.erst_device.specs.Timings.{timings_of}
use Rattle.erst_machine.specs.Allowed.{Allows}
use Rattle.erst_commands.specs.Attached.{own_client}
use Rattle.erst_commands.specs.Runs.{TableOver, RunFrom, CallFrom}
use Rattle.erst_port.specs.declared.windows.Addresses.{Addresses}
use Rattle.erst_port.specs.PortTables.{port_entries, port_erst}
use Rattle.erst_port.specs.Accesses.{with_value}
use Rattle.port_laws.specs.PortSpaces.{SpaceState, caught_up, Goes}
use Rattle.port_laws.specs.Machines.{machine_of}

-- the table of a port whose windows stand at these addresses, over the port
abbrev pub port_table : Addresses → TableOver SpaceState
port_table addresses = record { allows = Goes addresses; entries = port_entries addresses.registers; shows = machine_of }

-- each access of the port like the first call is an access of its machine like the second one
abbrev pub IsTheMachines : Addresses → (old : SpaceState) → (call own : Call) → Type 0
IsTheMachines addresses old call own = (new : SpaceState) → Goes addresses old call new → Allows (Unit {0}) (machine_of old) own (machine_of new)

-- its table and the address of its log range are the port's, and all else is the machine's
abbrev pub port_client : SpaceState → ClientState
port_client state = record (own_client (machine_of state)) { table = port_erst state.port.addresses.registers; address = state.port.addresses.range }

-- the port with a number in VALUE, and with nothing due
abbrev pub telling : ℕ → SpaceState → SpaceState
telling value state = record (caught_up state) { port = with_value value (caught_up state).port }

-- attaching with the steps that its four programs take: it never fails, and all that it leaves is the timings in VALUE
pub record AttachesPort {first : SpaceState} (run : RunFrom first (Result ClientState AttachError)) : Type 0 where
  pub result_is : run.answer ≡ Ok (port_client first)
  pub left_is : run.left + 8 ≡ run.budget
  pub last_is : run.last ≡ telling (timings_of first.port.device.store.layout) first

-- where a write or a clear is answered well, the port's records are those that it makes
abbrev pub MakesRecords : {first : SpaceState} → Command → CallFrom first (Unit {0}) → Type 0
MakesRecords {first = first} command run = run.answer ≡ Ok tt → records run.last.port.device ≡ after first.port.device.store.layout command (records first.port.device)
