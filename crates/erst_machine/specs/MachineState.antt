-- What is seen of the machine.
use Rattle.std.specs.Prelude.{◌≡◌, ℕ, ◌+◌, ◌-◌, ◌^◌, List, length}
use Rattle.base_model.specs.Flash.{Told}
use Rattle.base_model.specs.Layout.{room_of, reach_of}
use Rattle.record_model.specs.Records.{Stored}
use Rattle.apei_tables.specs.declared.registers.Place.{Place}
use Rattle.apei_tables.specs.declared.registers.Place.TheVariants.{Memory}
use Rattle.apei_tables.specs.declared.widths.Width.TheVariants.{B64}
use Rattle.ghes_block.specs.Region.{IsLaidOut}
use Rattle.ghes_ack.specs.declared.maps.HandoverMap.{HandoverMap}
use Rattle.ghes_ack.specs.Handovers.{HandoverState}
use Rattle.ghes_ack.specs.Sides.{Stands}
use Rattle.erst_device.specs.DeviceState.{DeviceState, records}
use Rattle.erst_machine.specs.declared.areas.Location.{Location}
use Rattle.erst_machine.specs.declared.contents.Contents.{Contents}
use Rattle.erst_machine.specs.declared.areas.Area.TheVariants.{Handover}
use Rattle.erst_machine.specs.Areas.{place_location, base_of}
use Rattle.erst_machine.specs.Memories.{MemoryState, memory_of, HasSizes}

-- the device over its store, the bytes of memory, the handover, and the sum of all waits in microseconds
pub record MachineState : Type 0 where
  pub device : DeviceState
  pub memory : MemoryState
  pub handover : HandoverState
  pub waited : ℕ

abbrev pub state_of : DeviceState → Contents → HandoverState → ℕ → MachineState
state_of device contents handover waited = record { device = device; memory = memory_of contents; handover = handover; waited = waited }

-- where n bytes stand
abbrev pub location_of : MachineState → Place → ℕ → Location
location_of state at n = place_location (length state.memory.range) at n

-- where the two sides of the handover meet: the machine's one error source
abbrev pub own_map : HandoverMap
own_map = record {
  status = base_of Handover;
  ack = record { place = Memory (base_of Handover + 8); access = B64; offset = 0 };
  preserve = 2 ^ 64 - 2;
  write = 1;
  block = base_of Handover + 0x1000;
  len = 4096;
}

-- the bytes of the longest record
abbrev pub reach_in : DeviceState → ℕ
reach_in device = reach_of (room_of device.store.layout)

-- a state of a machine: its log range takes the longest record, its boot error region holds whole blocks and then zeros, and its
-- handover stands for a state of the handover machine, over this memory
pub record IsMachine (state : MachineState) : Type 0 where
  pub sizes : HasSizes (reach_in state.device) state.memory
  pub laid : (blocks : List (List ℕ)) × (left : ℕ) × IsLaidOut blocks left state.memory.region
  pub map : state.handover.map ≡ own_map
  pub stands : Stands state.handover state.memory.shared

-- the records of the machine's flash, and what the flash tells
abbrev pub records_of : MachineState → Stored
records_of state = records state.device

abbrev pub told_of : MachineState → Told
told_of state = state.device.store.flash.told
