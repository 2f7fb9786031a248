-- Parts of a turn, as proofs name them.
use Rattle.erst_bridge.specs.Bridges.{BridgeState, Holds}
use Rattle.erst_bridge.specs.InStep.{IsInOrder}
use Rattle.erst_bridge.specs.Turns.{Turn, OfFirmware, OfBridge}
use Rattle.std.specs.Prelude.{ℕ, is_none, if◌then◌else◌, List, ◌∷◌, drop}
use Rattle.record_model.specs.Records.{Stored as Records}
use Rattle.record_model.specs.RecordMap.{Write, after}
use Rattle.erst_client.specs.Commands.{write_refusal}
use Rattle.erst_machine.specs.MachineState.{MachineState, reach_in, records_of}
use Rattle.erst_commands.specs.Writes.{id_of, marked}
use Rattle.erst_bridge.specs.declared.made.SideTurn.{SideTurn}
use Rattle.erst_bridge.specs.declared.made.SideTurn.TheVariants.{Firmware as ByFirmware, Bridge as ByBridge}
use Rattle.ghes_ack.specs.Machine.{Machine}
use Rattle.erst_bridge.specs.BridgedRecord.{bridged}

-- the reader gives each block back behind the storing of its record
abbrev pub KeepsOrder : BridgeState → Turn → Type 0
KeepsOrder bridge turn = elim turn as (λ _. Type 0) [ OfFirmware event ↦ Unit {0} | OfBridge event ↦ IsInOrder bridge event ]

-- the records as a client's write of some bytes leaves them where nothing fails: bytes that the client refuses change nothing
abbrev pub after_write : MachineState → List ℕ → Records
after_write state bytes =
    if is_none (write_refusal bytes (reach_in state.device)) then after state.device.store.layout (Write (id_of bytes) (marked bytes)) (records_of state)
    else records_of state

-- a turn as it is told
abbrev pub told_turn : Turn → SideTurn
told_turn turn = elim turn [ OfFirmware event ↦ ByFirmware event | OfBridge event ↦ ByBridge event ]

-- the blocks that are held, or submitted and not yet taken, in order
abbrev pub to_come : BridgeState → Machine → List (List ℕ)
to_come bridge m = elim bridge [ Holds held block ↦ block ∷ drop m.taken m.blocks | other ↦ drop m.taken m.blocks ]

-- the block that the machine's reader took last
abbrev pub last_of : MachineState → List ℕ
last_of state = state.handover.last

-- a block's record as it is stored, marked as one in persistent storage
abbrev pub stored_record : List ℕ → ℕ → List ℕ
stored_record block id = marked (bridged block id)
