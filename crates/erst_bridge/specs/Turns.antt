-- Turns of both sides of a machine's handover while a bridge is on: those of the reader are the bridge's.
use Rattle.std.specs.Prelude.{◌≡◌, ℕ, List, [], ◌∷◌}
use Rattle.ghes_ack.specs.declared.events.Side.TheVariants.{Firmware, Reader}
use Rattle.ghes_ack.specs.declared.events.Event.{Event}
use Rattle.erst_client.specs.Commands.{ClientState}
use Rattle.erst_machine.specs.MachineState.{MachineState}
use Rattle.erst_machine.specs.Allowed.{Allows}
use Rattle.erst_machine.specs.Events.{Turns}
use Rattle.erst_bridge.specs.declared.events.BridgeEvent.{BridgeEvent}
use Rattle.erst_bridge.specs.Bridges.{BridgeState, station_rules, Asker, asker_of, Bridges}

-- a turn of a bridge over the machine
abbrev pub BridgesMachine : Type 0 → ClientState → ℕ → MachineState → BridgeState → BridgeEvent → BridgeState → ℕ → MachineState → Type 0
BridgesMachine tells client budget old bridge event next left new =
    Bridges (station_rules {S = MachineState} {W = MachineState} (λ state. state) (Allows tells) (Turns Reader) (λ state. state.handover.last))
    (asker_of client budget) old bridge event
    (record { bridge = next; left = left; station = new })

-- a turn of either side, with what it did
pub data Turn : Type 0 where
  OfFirmware : Event → Turn
  OfBridge : BridgeEvent → Turn

-- a turn, and the bridge and the machine that it leaves
pub record Step : Type 0 where
  pub turn : Turn
  pub bridge : BridgeState
  pub machine : MachineState

-- each turn of the bridge has a budget of its own
abbrev pub IsTurn : Type 0 → ClientState → ℕ → BridgeState → MachineState → Turn → BridgeState → MachineState → Type 0
IsTurn tells client budget bridge old (OfFirmware event) next new = (next ≡ bridge) × Turns Firmware old event new
IsTurn tells client budget bridge old (OfBridge event) next new = (left : ℕ) × BridgesMachine tells client budget old bridge event next left new

-- a machine, and the bridge over it
pub record BridgedMachine : Type 0 where
  pub bridge : BridgeState
  pub machine : MachineState

abbrev pub bridged_machine : BridgeState → MachineState → BridgedMachine
bridged_machine bridge machine = record { bridge = bridge; machine = machine }

abbrev pub MakesTurn : Type 0 → Asker → BridgedMachine → Turn → BridgedMachine → Type 0
MakesTurn tells asker old turn new = IsTurn tells asker.client asker.steps old.bridge old.machine turn new.bridge new.machine

-- turns one after another
abbrev pub AreTurns : Type 0 → ClientState → ℕ → BridgeState → MachineState → List Step → BridgeState → MachineState → Type 0
AreTurns tells client budget bridge old [] next new = (next ≡ bridge) × (new ≡ old)
AreTurns tells client budget bridge old (step ∷ rest) next new =
    IsTurn tells client budget bridge old step.turn step.bridge step.machine × AreTurns tells client budget step.bridge step.machine rest next new
