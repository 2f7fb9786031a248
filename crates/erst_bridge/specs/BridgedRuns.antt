-- A turn of a bridge over a machine, and turns of the bridge and of the firmware one after another, each as one thing.
use Rattle.std.specs.Prelude.{◌≡◌, ℕ, ◌≤◌, List}
use Rattle.base_model.specs.Flash.{CrashImage}
use Rattle.record_model.specs.Records.{Stored as Records}
use Rattle.erst_client.specs.Commands.{ClientState}
use Rattle.erst_machine.specs.MachineState.{MachineState, IsMachine, told_of}
use Rattle.erst_machine.specs.Shown.{shown_by, changes_of}
use Rattle.erst_commands.specs.Attached.{own_client}
use Rattle.erst_bridge.specs.declared.events.BridgeEvent.{BridgeEvent}
use Rattle.erst_bridge.specs.Bridges.{BridgeState}
use Rattle.erst_bridge.specs.Turns.{BridgesMachine, Step, AreTurns}

-- a turn of the bridge by a client: its budget, the machine and the bridge before it, what it did, and the bridge, the steps that are left
-- and the machine behind it
pub record BridgedTurn : Type 0 where
  pub client : ClientState
  pub budget : ℕ
  pub old : MachineState
  pub bridge : BridgeState
  pub event : BridgeEvent
  pub next : BridgeState
  pub left : ℕ
  pub new : MachineState

abbrev pub IsMadeTurn : (tells : Type 0) → BridgedTurn → Type 0
IsMadeTurn tells turn = BridgesMachine tells turn.client turn.budget turn.old turn.bridge turn.event turn.next turn.left turn.new

-- turns of both, the bridge's by a client and with one budget each: the bridge and the machine before them, the turns, and the bridge and
-- the machine behind them
pub record BridgedRun : Type 0 where
  pub client : ClientState
  pub budget : ℕ
  pub bridge : BridgeState
  pub first : MachineState
  pub steps : List Step
  pub next : BridgeState
  pub last : MachineState

abbrev pub IsMadeRun : (tells : Type 0) → BridgedRun → Type 0
IsMadeRun tells run = AreTurns tells run.client run.budget run.bridge run.first run.steps run.next run.last

-- the client is the one that attaching to the machine's own table finds
pub record IsByOwnClient (client : ClientState) (first : MachineState) : Type 0 where
  pub own : client ≡ own_client first
  pub machine : IsMachine first

-- whenever power is lost between two machines, the records that it shows are such
abbrev pub EachLossShows : (first last : MachineState) → (ℕ → Records → Type 0) → Type 0
EachLossShows first last AreSuch = (s : ℕ) (image : List ℕ) → changes_of first ≤ s → CrashImage (told_of last) s image → AreSuch s (shown_by first image)
