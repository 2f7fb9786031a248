-- The machine that has the device and the log range of a port.
use Rattle.std.specs.Prelude.{List, [], ◌∷◌}
use Rattle.erst_entries.specs.declared.actions.Action.{Action}
use Rattle.erst_entries.specs.declared.actions.Action.TheVariants.{GetRecordIdentifier, GetErrorLogAddressRange}
use Rattle.erst_client.specs.declared.requests.Request.{Request}
use Rattle.ghes_ack.specs.Handovers.{fresh}
use Rattle.ghes_ack.specs.Maps.{memory_started}
use Rattle.erst_machine.specs.Memories.{MemoryState, blank, cleared}
use Rattle.erst_machine.specs.MachineState.{MachineState, own_map}
use Rattle.port_laws.specs.PortSpaces.{SpaceState}

-- all other memory is as a boot leaves it
unfoldable pub booted_memory : MemoryState
booted_memory = cleared 0 (memory_started own_map blank)

abbrev pub machine_of : SpaceState → MachineState
machine_of state = record {
  device = state.port.device;
  memory = record booted_memory { range = state.port.range };
  handover = fresh own_map;
  waited = state.waited;
}

-- the actions that a port carries out as the machine does: all but two
abbrev pub IsShared : Action → Type 0
IsShared GetRecordIdentifier = ⊥
IsShared GetErrorLogAddressRange = ⊥
IsShared action = Unit {0}

abbrev pub AreShared : List Request → Type 0
AreShared [] = Unit {0}
AreShared (request ∷ requests) = IsShared request.action × AreShared requests
