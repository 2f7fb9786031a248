-- The boot of a machine.
use Rattle.std.specs.Prelude.{◌≡◌, ◌≤◌}
use Rattle.base_model.specs.Faults.{Rose}
use Rattle.base_model.specs.Flash.{FlashState}
use Rattle.base_model.specs.Layout.{room_of, reach_of}
use Rattle.flash_model.specs.declared.geometry.Geometry.{Geometry}
use Rattle.flash_model.specs.Layouts.{layout_of, Fits}
use Rattle.record_store.specs.Store.{IsOpened}
use Rattle.ghes_ack.specs.Machine.{started}
use Rattle.ghes_ack.specs.Maps.{window, memory_started}
use Rattle.ghes_ack.specs.Handovers.{StandsFor, fresh}
use Rattle.erst_device.specs.DeviceState.{at_first}
use Rattle.erst_machine.specs.declared.errors.BootError.{BootError}
use Rattle.erst_machine.specs.declared.errors.BootError.TheVariants.{Size, Flash, Memory}
use Rattle.erst_machine.specs.Memories.{blank, cleared}
use Rattle.erst_machine.specs.MachineState.{MachineState, IsMachine, own_map}

-- why a flash is refused, with what it was and what is handed back
abbrev pub RefusesBoot : Geometry → FlashState → FlashState → BootError → Type 0
RefusesBoot geometry old back (Size found sector) = (Fits geometry old → ⊥) × (found ≡ old.size) × (sector ≡ old.sector_size) × (back ≡ old)
RefusesBoot geometry old back Flash = Fits geometry old × (old.faults ≤ back.faults) × Rose old.faults back.faults
RefusesBoot geometry old back Memory = Fits geometry old × (back ≡ old)

-- a machine right after its boot: nothing is begun, memory is zeros, and the handover is at its start
pub record IsBooted (geometry : Geometry) (state : MachineState) : Type 0 where
  pub opened : IsOpened geometry state.device.store
  pub registers : state.device ≡ at_first state.device.store
  pub memory : state.memory ≡ cleared (reach_of (room_of (layout_of geometry))) (memory_started own_map blank)
  pub handover : state.handover ≡ fresh own_map
  pub stands : StandsFor state.handover state.memory.shared (started (window own_map blank))
  pub waited : state.waited ≡ 0
  pub machine : IsMachine state
