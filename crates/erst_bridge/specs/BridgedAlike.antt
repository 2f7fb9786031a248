-- What is proved of a bridge over two machines that are equivalent: turns by the same client, with the same budget, over flashes that fail nothing.
use Rattle.std.specs.Prelude.{◌≡◌, ℕ, List}
use Rattle.ghes_ack.specs.declared.events.Side.{Side}
use Rattle.erst_client.specs.Commands.{ClientState}
use Rattle.erst_machine.specs.MachineState.{MachineState}
use Rattle.erst_commands.specs.Equivalence.{EquivalentMachines, FailedNothing}
use Rattle.erst_bridge.specs.declared.events.BridgeEvent.{BridgeEvent}
use Rattle.erst_bridge.specs.Bridges.{BridgeState, asker_of}
use Rattle.erst_bridge.specs.Turns.{BridgesMachine, Turn, Step, bridged_machine, IsTurn, AreTurns}
use Rattle.erst_bridge.specs.declared.made.MadeTurn.{MadeTurn}
use Rattle.erst_bridge.specs.Made.{side_in, sides_in, MakesTurns}
use Rattle.erst_bridge.specs.EquivalentSteps.{EquivalentSteps}

-- a turn of the bridge: what it did, and the bridge behind it
abbrev pub BridgeTurns : (tells : Type 0) → ClientState → (budget : ℕ) → BridgeState → MachineState → BridgeEvent × BridgeState → ℕ → MachineState → Type 0
BridgeTurns tells client budget bridge first answer left last = BridgesMachine tells client budget first bridge answer.0 answer.1 left last

-- a turn of the same side is the same, with the same bridge behind it
abbrev pub EachTurnIsAlike : (tells : Type 0) → ClientState → BridgeState → (budget : ℕ) → Type 0
EachTurnIsAlike tells client bridge budget =
    (one other : MachineState) (turn also : Turn) (next also_next : BridgeState) (one_after other_after : MachineState)
    → EquivalentMachines one other → side_in turn ≡ side_in also
    → IsTurn tells client budget bridge one turn next one_after → FailedNothing one one_after
    → IsTurn tells client budget bridge other also also_next other_after → FailedNothing other other_after
    → (turn ≡ also) × (next ≡ also_next) × EquivalentMachines one_after other_after

-- so are turns of the same sides, one after another
abbrev pub EachRunIsAlike : (tells : Type 0) → ClientState → BridgeState → (budget : ℕ) → Type 0
EachRunIsAlike tells client bridge budget =
    (one other : MachineState) (steps others : List Step) (next also_next : BridgeState) (one_after other_after : MachineState)
    → EquivalentMachines one other → sides_in steps ≡ sides_in others
    → AreTurns tells client budget bridge one steps next one_after → FailedNothing one one_after
    → AreTurns tells client budget bridge other others also_next other_after → FailedNothing other other_after
    → EquivalentSteps steps others × (next ≡ also_next) × EquivalentMachines one_after other_after

-- and what is told of them, with the flash changes behind each
abbrev pub EachRunIsToldAlike : (tells : Type 0) → ClientState → BridgeState → (budget : ℕ) → Type 0
EachRunIsToldAlike tells client bridge budget =
    (one other : MachineState) (sides : List Side) (made also : List MadeTurn) (next also_next : BridgeState) (one_after other_after : MachineState)
    → EquivalentMachines one other
    → MakesTurns tells (asker_of client budget) (bridged_machine bridge one) sides made (bridged_machine next one_after) → FailedNothing one one_after
    → MakesTurns tells (asker_of client budget) (bridged_machine bridge other) sides also (bridged_machine also_next other_after) → FailedNothing other other_after
    → (made ≡ also) × (next ≡ also_next) × EquivalentMachines one_after other_after
