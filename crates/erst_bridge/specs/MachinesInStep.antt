-- A bridge in step with the handover of its machine.
use Rattle.std.specs.Prelude.{List, [], ◌∷◌}
use Rattle.ghes_ack.specs.Machine.{Machine}
use Rattle.ghes_ack.specs.Handovers.{StandsFor}
use Rattle.erst_machine.specs.MachineState.{MachineState}
use Rattle.erst_bridge.specs.Bridges.{BridgeState}
use Rattle.erst_bridge.specs.InStep.{IsInStep, IsInOrder}
use Rattle.erst_bridge.specs.Turns.{OfFirmware, OfBridge, Step}

-- the machine's handover stands for this state of the handover machine, with which the bridge is in step
pub record StandsInStep (bridge : BridgeState) (state : MachineState) (m : Machine) : Type 0 where
  pub stands : StandsFor state.handover state.memory.shared m
  pub step : IsInStep bridge m

-- the reader gives each block back behind the storing of its record
abbrev pub KeepOrder : BridgeState → List Step → Type 0
KeepOrder bridge [] = Unit {0}
KeepOrder bridge (step ∷ rest) =
    (elim step.turn as (λ _. Type 0) [ OfFirmware event ↦ Unit {0} | OfBridge event ↦ IsInOrder bridge event ]) × KeepOrder step.bridge rest
