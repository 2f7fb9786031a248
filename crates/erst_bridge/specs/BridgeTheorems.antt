-- What is proved of the turns of a bridge over a machine.
use Rattle.std.specs.Prelude.{◌≡◌, ℕ, ◌+◌, ◌-◌, ◌^◌, ◌<◌, ◌≤◌, Err, List, length}
use Rattle.base_model.specs.Faults.{Rose}
use Rattle.apei_space.specs.Accesses.{Move, Trail}
use Rattle.ghes_ack.specs.Machine.{Machine as HandoverMachine}
use Rattle.erst_client.specs.declared.errors.ClientError.{ClientError as AnyError}
use Rattle.erst_client.specs.declared.errors.ClientError.TheVariants.{Hardware, TooLong}
use Rattle.erst_client.specs.Timings.{enough_steps}
use Rattle.erst_machine.specs.MachineState.{MachineState, records_of}
use Rattle.erst_machine.specs.Events.{Event, Happens}
use Rattle.erst_commands.specs.Attached.{own_client}
use Rattle.erst_commands.specs.Causes.{GoesThrough}
use Rattle.erst_bridge.specs.declared.events.BridgeEvent.TheVariants.{Stored, Kept, Out}
use Rattle.erst_bridge.specs.Bridges.{BridgeState, Holds, Releases}
use Rattle.erst_bridge.specs.Turns.{Step}
use Rattle.erst_bridge.specs.BridgedRuns.{BridgedTurn, BridgedRun, IsMadeRun, EachLossShows}
use Rattle.erst_bridge.specs.Shown.{ShowsTurns, IsStoredAs, IsCovered}
use Rattle.erst_bridge.specs.MachinesInStep.{StandsInStep, KeepOrder}
use Rattle.erst_bridge.specs.Sums.{taken_by, stored_by, acknowledged_by, sum_of, held_in, released_in}
use Rattle.erst_bridge.specs.Prefixes.{HasPrefix, bytes_in}
use Rattle.erst_commands.specs.Writes.{marked}
use Rattle.erst_bridge.specs.BridgedRecord.{bridged}

-- what a run did to the machine is one list of accesses and turns
abbrev pub IsOneList : (tells : Type 0) → BridgedRun → Type 0
IsOneList tells run = (trail : List (Move Event MachineState)) × Trail (Happens tells) run.first trail run.last

-- power lost at any flash step shows the records after the turns that had ended by then, or as the next one leaves them
abbrev pub EachLossShowsItsTurns : BridgedRun → Type 0
EachLossShowsItsTurns run = EachLossShows run.first run.last (λ s shown. ShowsTurns s run.bridge run.first run.steps shown)

-- a turn stored a held block, and whatever turns come behind it, by the same client and with the same budget: power lost in them leaves
-- its record
abbrev pub EachStoredBlockStays : (tells : Type 0) → BridgedTurn → Type 0
EachStoredBlockStays tells turn =
    (id : ℕ) → turn.event ≡ Stored id → (steps : List Step) (end : BridgeState) (last : MachineState)
    → IsMadeRun tells (record { client = turn.client; budget = turn.budget; bridge = turn.next; first = turn.new; steps = steps; next = end; last = last })
    → (block : List ℕ) × (turn.bridge ≡ Holds id block) × EachLossShows turn.new last (λ s shown. IsStoredAs id (marked (bridged block id)) shown)

-- whenever the reader gives a block back, the record of the block that it took last is stored
abbrev pub StaysCovered : BridgedRun → HandoverMachine → Type 0
StaysCovered run m =
    StandsInStep run.bridge run.first m → IsCovered run.bridge m (records_of run.first)
    → (also : HandoverMachine) × StandsInStep run.next run.last also × IsCovered run.next also (records_of run.last)

-- while the reader gives a block back, a stored record stays, whenever power is lost from there on
abbrev pub LeavesStored : (id : ℕ) (bytes : List ℕ) → BridgedRun → Type 0
LeavesStored id bytes run =
    run.bridge ≡ Releases (id + 1) → IsStoredAs id bytes (records_of run.first) → EachLossShows run.first run.last (λ s shown. IsStoredAs id bytes shown)

-- the reader clears and acknowledges a block only behind the storing of its record
abbrev pub KeepsInOrder : BridgedRun → HandoverMachine → Type 0
KeepsInOrder run m = StandsInStep run.bridge run.first m → KeepOrder run.bridge run.steps × ((also : HandoverMachine) × StandsInStep run.next run.last also)

-- as many blocks are acknowledged as were stored, but for one; and as many are stored as were taken, but for one
abbrev pub Balances : BridgedRun → Type 0
Balances run =
    KeepOrder run.bridge run.steps
    → (sum_of stored_by run.steps + released_in run.bridge ≡ sum_of acknowledged_by run.steps + released_in run.next)
    × (sum_of taken_by run.steps + held_in run.bridge ≡ sum_of stored_by run.steps + held_in run.next)

-- power lost at any step shows the records from before the run, with those of the first blocks that were held, or to come
abbrev pub EachLossShowsAPrefix : BridgedRun → HandoverMachine → Type 0
EachLossShowsAPrefix run m =
    StandsInStep run.bridge run.first m
    → EachLossShows run.first run.last (λ s shown. HasPrefix run.bridge m (bytes_in (records_of run.first)) shown)

-- Why a block is kept

-- it is longer than the client's range: at once, and with nothing changed
abbrev pub TooLongIsKept : BridgedTurn → Type 0
TooLongIsKept turn =
    (id : ℕ) (block : List ℕ) → turn.bridge ≡ Holds id block → id < 2 ^ 64 - 1 → length block ≤ 4096 → turn.client.range < 200 + length block
    → (turn.event ≡ Kept (TooLong (200 + length block) turn.client.range)) × (turn.new ≡ turn.old)

-- and one that fits is not kept so
abbrev pub NoneThatFitsIsTooLong : BridgedTurn → Type 0
NoneThatFitsIsTooLong turn =
    (id : ℕ) (block : List ℕ) → turn.bridge ≡ Holds id block → length block ≤ 4096 → 200 + length block ≤ turn.client.range
    → (len range : ℕ) → turn.event ≡ Kept (TooLong len range) → ⊥

-- the flash failed, and so its count of faults rose in this turn
abbrev pub HardwareRose : BridgedTurn → Type 0
HardwareRose turn =
    turn.client ≡ own_client turn.old → turn.event ≡ Kept Hardware → Rose turn.old.device.store.flash.faults turn.new.device.store.flash.faults

-- with the steps that are enough never for want of steps or of time
abbrev pub NeverForWantOfSteps : BridgedTurn → Type 0
NeverForWantOfSteps turn =
    enough_steps turn.client.timings ≤ turn.budget → (error : AnyError) → turn.event ≡ Kept error → GoesThrough {T = Unit {0}} (Err error)

-- `Out` comes exactly where the identifier would be 2^64 - 1, and changes nothing
abbrev pub OutIsOfTheLast : BridgedTurn → Type 0
OutIsOfTheLast turn =
    turn.event ≡ Out → (block : List ℕ) × (turn.bridge ≡ Holds (2 ^ 64 - 1) block) × (turn.next ≡ turn.bridge) × (turn.new ≡ turn.old)

abbrev pub TheLastIsOut : BridgedTurn → Type 0
TheLastIsOut turn = (id : ℕ) (block : List ℕ) → turn.bridge ≡ Holds id block → id ≡ 2 ^ 64 - 1 → turn.event ≡ Out
