-- A bridge that is on stays in step with the handover, over all lines, and the blocks that its reader gives back were stored.
use Rattle.std.specs.Prelude.{◌≡◌, ◌⊎◌, ℕ, List, [], ◌∷◌, Option, Some, None}
use Rattle.ghes_ack.specs.Machine.{Machine as HandoverMachine}
use Rattle.erst_machine.specs.MachineState.{MachineState}
use Rattle.erst_bridge.specs.declared.events.BridgeEvent.TheVariants.{Line as ByReader, Stored}
use Rattle.erst_bridge.specs.Bridges.{BridgeState, Off, Holds}
use Rattle.erst_bridge.specs.InStep.{GivesBack}
use Rattle.erst_bridge.specs.Turns.{OfBridge, Step}
use Rattle.erst_bridge.specs.MachinesInStep.{StandsInStep, KeepOrder}
use Rattle.apei_script.specs.Players.{PlayerState}
use Rattle.script_laws.specs.History.{Played}

-- the bridge is off, or in step with the handover
abbrev pub IsInStep : PlayerState → Type 0
IsInStep state = (state.bridge ≡ Off) ⊎ ((m : HandoverMachine) × StandsInStep state.bridge state.machine m)

-- before each line and at the end; and in each line of turns the reader gives a block back behind the storing of its record
abbrev pub AlwaysInStep : PlayerState → List Played → Type 0
AlwaysInStep state [] = IsInStep state
AlwaysInStep state (played ∷ rest) = IsInStep state × KeepOrder state.bridge played.steps × AlwaysInStep played.left rest

-- the block that was stored last, behind turns: one that is answered `Stored` stores the block that was held
abbrev pub stored_behind : Option (List ℕ) → BridgeState → List Step → Option (List ℕ)
stored_behind last state [] = last
stored_behind last state (step ∷ rest) =
    stored_behind (elim step.turn [
      | OfBridge (Stored id) ↦ elim state [ Holds held block ↦ Some block | other ↦ None ]
      | other ↦ last
    ]) step.bridge rest

-- each turn by which the reader clears or acknowledges a block, the one that it took last, is of the block that was stored last
abbrev pub GiveStoredBack : Option (List ℕ) → BridgeState → MachineState → List Step → Type 0
GiveStoredBack last state old [] = Unit {0}
GiveStoredBack last state old (step ∷ rest) =
    elim step.turn [ OfBridge (ByReader event) ↦ GivesBack event → last ≡ Some old.handover.last | other ↦ Unit {0} ]
    × GiveStoredBack (stored_behind last state (step ∷ [])) step.bridge step.machine rest

-- so is each such turn of these lines while the bridge is on
abbrev pub AllGiveStoredBack : Option (List ℕ) → PlayerState → List Played → Type 0
AllGiveStoredBack last state [] = Unit {0}
AllGiveStoredBack last state (played ∷ rest) =
    GiveStoredBack last state.bridge state.machine played.steps × AllGiveStoredBack (stored_behind last state.bridge played.steps) played.left rest
