-- What is seen of a bridge, and what a turn of it does over any station.
use Rattle.std.specs.Prelude.{◌≡◌, ℕ, ◌+◌, ◌-◌, ◌^◌, ◌<◌, List, drop, Ok, Err}
use Rattle.apei_space.specs.Calls.{Call}
use Rattle.ghes_ack.specs.declared.events.Event.{Event}
use Rattle.ghes_ack.specs.declared.events.Event.TheVariants.{Took, Ack}
use Rattle.erst_client.specs.declared.errors.ClientError.{ClientError}
use Rattle.erst_client.specs.Commands.{ClientState, Writes}
use Rattle.erst_bridge.specs.declared.events.BridgeEvent.{BridgeEvent}
use Rattle.erst_bridge.specs.declared.events.BridgeEvent.TheVariants.{Line, Stored, Kept, Out}
use Rattle.erst_bridge.specs.declared.stages.BridgeStage.{BridgeStage}
use Rattle.erst_bridge.specs.declared.stages.BridgeStage.TheVariants.{Closed, Awaiting, Holding, Releasing}
use Rattle.erst_bridge.specs.BridgedRecord.{bridged}

-- a bridge: off; or it awaits a block, with the identifier that the block will get; or it holds a block whose record is not stored, with
-- its identifier; or the block's record is stored and the reader has still to acknowledge it, with the identifier of the next one
pub data BridgeState : Type 0 where
  Off : BridgeState
  Awaits : (id : ℕ) → BridgeState
  Holds : (id : ℕ) (block : List ℕ) → BridgeState
  Releases : (id : ℕ) → BridgeState

-- in the record of the held block, the block stands behind the 200 bytes of header and descriptor
abbrev pub state_of : BridgeStage → ℕ → List ℕ → BridgeState
state_of Closed id bytes = Off
state_of Awaiting id bytes = Awaits id
state_of Holding id bytes = Holds id (drop 200 bytes)
state_of Releasing id bytes = Releases id

-- while a block is held the bytes are its record, and an identifier is at least 1
abbrev pub HasRecord : BridgeStage → ℕ → List ℕ → Type 0
HasRecord Closed id bytes = Unit {0}
HasRecord Awaiting id bytes = 0 < id
HasRecord Holding id bytes = (0 < id) × (bytes ≡ bridged (drop 200 bytes) id)
HasRecord Releasing id bytes = 0 < id

-- a bridge that is on and holds no block, and the identifier of the next one
abbrev pub HoldsNone : ℕ → BridgeState → Type 0
HoldsNone id Off = ⊥
HoldsNone id (Awaits next) = next ≡ id
HoldsNone id (Holds n block) = ⊥
HoldsNone id (Releases next) = next ≡ id

-- behind a turn of the reader: a block that was taken is held, behind an acknowledgement the next one is awaited, and any other event
-- leaves the bridge
abbrev pub after_reader : Event → ℕ → List ℕ → BridgeState → BridgeState
after_reader Took id block bridge = Holds id block
after_reader Ack id block bridge = Awaits id
after_reader event id block bridge = bridge

-- the held block was stored
abbrev pub IsStored : BridgeEvent → Type 0
IsStored (Line event) = ⊥
IsStored (Stored id) = Unit {0}
IsStored (Kept error) = ⊥
IsStored Out = ⊥

-- behind a try to store it
abbrev pub after_offer : BridgeEvent → ℕ → List ℕ → BridgeState
after_offer (Stored name) id block = Releases (id + 1)
after_offer event id block = Holds id block

-- what a station is: the space under it, what a call does to the space, a turn of its reader, and the block that the reader took last
pub record StationRules (S W : Type 0) : Type 1 where
  pub state : S → W
  pub allows : W → Call → W → Type 0
  pub reads : S → Event → S → Type 0
  pub last : S → List ℕ

abbrev pub station_rules : {S W : Type 0} → (state : S → W) → (allows : W → Call → W → Type 0) → (reads : S → Event → S → Type 0) → (last : S → List ℕ) → StationRules S W
station_rules state allows reads last = record { state = state; allows = allows; reads = reads; last = last }

-- who asks for a command: a client, with so many steps
pub record Asker : Type 0 where
  pub client : ClientState
  pub steps : ℕ

abbrev pub asker_of : ClientState → ℕ → Asker
asker_of client steps = record { client = client; steps = steps }

-- what a turn leaves: the bridge, the steps that are left, and the station
pub record Outcome (S : Type 0) : Type 0 where
  pub bridge : BridgeState
  pub left : ℕ
  pub station : S

-- A turn of a bridge: what it was, its event, and what it leaves. While a block is held the reader makes no turn; the identifier 2^64 - 1 is
-- none
pub data Bridges {S W : Type 0} (rules : StationRules S W) (asker : Asker) (old : S) : BridgeState → BridgeEvent → Outcome S → Type 0 where
  TurnsReader : (id : ℕ) (bridge : BridgeState) (event : Event) (new : S) → HoldsNone id bridge → rules.reads old event new
      → Bridges rules asker old bridge (Line event) (record { bridge = after_reader event id (rules.last new) bridge; left = asker.steps; station = new })
  Stores : (id : ℕ) (block : List ℕ) (left : ℕ) (new : S) → id < 2 ^ 64 - 1
      → Writes rules.allows asker.client (bridged block id) asker.steps (rules.state old) (Ok tt) left (rules.state new)
      → Bridges rules asker old (Holds id block) (Stored id) (record { bridge = Releases (id + 1); left = left; station = new })
  Keeps : (id : ℕ) (block : List ℕ) (error : ClientError) (left : ℕ) (new : S) → id < 2 ^ 64 - 1
      → Writes rules.allows asker.client (bridged block id) asker.steps (rules.state old) (Err error) left (rules.state new)
      → Bridges rules asker old (Holds id block) (Kept error) (record { bridge = Holds id block; left = left; station = new })
  RunsOut : (id : ℕ) (block : List ℕ) → id ≡ 2 ^ 64 - 1
      → Bridges rules asker old (Holds id block) Out (record { bridge = Holds id block; left = asker.steps; station = old })
