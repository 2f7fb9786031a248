-- What power lost in the turns of a bridge shows.
use Rattle.std.specs.Prelude.{◌≡◌, ◌⊎◌, ℕ, ◌+◌, nat_le, is_none, if◌then◌else◌, MatchBool, List, [], ◌∷◌, Some}
use Rattle.std.specs.FinMap.{get}
use Rattle.record_model.specs.Records.{Stored as Records}
use Rattle.record_model.specs.RecordMap.{Write, after}
use Rattle.ghes_ack.specs.Machine.{Machine, last_taken}
use Rattle.erst_client.specs.Commands.{write_refusal}
use Rattle.erst_machine.specs.MachineState.{MachineState, reach_in, records_of}
use Rattle.erst_machine.specs.Shown.{changes_of}
use Rattle.erst_commands.specs.Writes.{id_of, marked}
use Rattle.erst_bridge.specs.declared.events.BridgeEvent.TheVariants.{Line, Out}
use Rattle.erst_bridge.specs.BridgedRecord.{bridged}
use Rattle.erst_bridge.specs.Bridges.{BridgeState, Off, Awaits, Holds, Releases}
use Rattle.erst_bridge.specs.Turns.{Turn, OfFirmware, OfBridge, Step}

-- the records as a turn leaves them where nothing fails: one that was answered `Stored` or `Kept` is a client's write of the held block's
-- record, and bytes that the client refuses change nothing
abbrev pub after_turn : BridgeState → MachineState → Turn → Records
after_turn bridge state (OfFirmware event) = records_of state
after_turn bridge state (OfBridge (Line event)) = records_of state
after_turn bridge state (OfBridge Out) = records_of state
after_turn (Holds id block) state (OfBridge event) =
    let bytes = bridged block id in
    if is_none (write_refusal bytes (reach_in state.device)) then after state.device.store.layout (Write (id_of bytes) (marked bytes)) (records_of state)
    else records_of state
after_turn bridge state (OfBridge event) = records_of state

-- power lost at step s shows the records after the turns that had ended by s, or as the next one leaves them where nothing fails
abbrev pub ShowsTurns : ℕ → BridgeState → MachineState → List Step → Records → Type 0
ShowsTurns s bridge state [] shown = shown ≡ records_of state
ShowsTurns s bridge state (step ∷ rest) shown =
    MatchBool (nat_le (changes_of step.machine) s)
    (ShowsTurns s step.bridge step.machine rest shown)
    ((shown ≡ records_of state) ⊎ (shown ≡ after_turn bridge state step.turn))

-- a record of these bytes is stored under an identifier
abbrev pub IsStoredAs : ℕ → List ℕ → Records → Type 0
IsStoredAs id bytes stored = (generation : ℕ) × (get stored id ≡ Some (bytes, generation))

-- while the reader gives a block back, the block's record is stored, under the identifier before the next one
abbrev pub IsCovered : BridgeState → Machine → Records → Type 0
IsCovered Off m stored = Unit {0}
IsCovered (Awaits id) m stored = Unit {0}
IsCovered (Holds id block) m stored = Unit {0}
IsCovered (Releases next) m stored = (id : ℕ) × (next ≡ id + 1) × IsStoredAs id (marked (bridged (last_taken m) id)) stored
