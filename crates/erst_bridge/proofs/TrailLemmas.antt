-- What turns did to the machine, as one list of what happens.
use Rattle.std.proofs.Common.{◌≡◌, ◌∙◌, ℕ, List, [], ◌∷◌, ◌++◌, length, Ok, Err, refl, sym, ap, subst}
use Rattle.base_model.specs.Layout.{Layout}
use Rattle.apei_space.specs.Accesses.{Move, Trail}
use Rattle.ghes_ack.specs.declared.events.Side.TheVariants.{Firmware, Reader}
use Rattle.erst_client.specs.Commands.{ClientState}
use Rattle.erst_client.proofs.CommandLemmas.{writes_on}
use Rattle.erst_machine.specs.MachineState.{MachineState, IsMachine}
use Rattle.erst_machine.specs.Allowed.{Allows}
use Rattle.erst_machine.specs.Events.{Event, Turned, Happens}
use Rattle.erst_machine.specs.Shown.{GoesOn}
use Rattle.erst_machine.proofs.CrashTrail.{events_are_shown, happens_then, reached_happens}
use Rattle.erst_machine.proofs.EventLemmas.{events_keep}
use Rattle.erst_commands.specs.Attached.{own_client}
use Rattle.erst_bridge.specs.declared.events.BridgeEvent.{BridgeEvent}
use Rattle.erst_bridge.specs.BridgedRecord.{bridged}
use Rattle.erst_bridge.specs.Bridges.{BridgeState, TurnsReader, Stores, Keeps, RunsOut}
use Rattle.erst_bridge.specs.Turns.{BridgesMachine, Turn, OfFirmware, OfBridge, Step, IsTurn, AreTurns}

abbrev pub HasTrail : Type 0 → MachineState → MachineState → Type 0
HasTrail tells old new = (trail : List (Move Event MachineState)) × Trail (Happens tells) old trail new

-- the client of the machine's own table depends on how the flash is divided alone
pub own_client-same : (old new : MachineState) → new.device.store.layout ≡ old.device.store.layout → own_client new ≡ own_client old
own_client-same old new same = ap (λ (l : Layout). own_client (record old { device = record old.device { store = record old.device.store { layout = l } } })) same

module _ (tells : Type 0) where
  pub no_moves : (old : MachineState) → HasTrail tells old old
  no_moves old = ([], refl)

  pub one_move : (old : MachineState) (event : Event) (new : MachineState) → Happens tells old event new → HasTrail tells old new
  one_move old event new happens = ((record { event = event; left = new }) ∷ [], (happens, refl))

  pub moves_then : (old mid new : MachineState) → HasTrail tells old mid → HasTrail tells mid new → HasTrail tells old new
  moves_then old mid new before behind = (before.0 ++ behind.0, happens_then tells old mid new before.0 behind.0 before.1 behind.1)

  module _ (client : ClientState) (budget : ℕ) where
    bridge_trail : (old : MachineState) (bridge : BridgeState) (event : BridgeEvent) (next : BridgeState) (left : ℕ) (new : MachineState)
        → BridgesMachine tells client budget old bridge event next left new → HasTrail tells old new
    bridge_trail old bridge event next left new turn = elim turn as (λ bridge event after turn. HasTrail tells old after.station) [
      | TurnsReader id bridge event new none reads ↦ one_move old (Turned Reader event) new reads
      | Stores id block left new small writes ↦ reached_happens tells old new (writes_on (Allows tells) client (bridged block id) budget old (Ok tt) left new writes)
      | Keeps id block error left new small writes ↦ reached_happens tells old new (writes_on (Allows tells) client (bridged block id) budget old (Err error) left new writes)
      | RunsOut id block last ↦ no_moves old
    ]

    turn_trail : (bridge : BridgeState) (old : MachineState) (turn : Turn) (next : BridgeState) (new : MachineState) → IsTurn tells client budget bridge old turn next new → HasTrail tells old new
    turn_trail bridge old (OfFirmware event) next new is = one_move old (Turned Firmware event) new is.1
    turn_trail bridge old (OfBridge event) next new is = bridge_trail old bridge event next is.0 new is.1

    pub turns_trail : (bridge : BridgeState) (first : MachineState) (steps : List Step) (next : BridgeState) (last : MachineState)
        → AreTurns tells client budget bridge first steps next last → HasTrail tells first last
    turns_trail bridge first [] next last are = subst (λ (m : MachineState). HasTrail tells first m) (sym are.1) (no_moves first)
    turns_trail bridge first (step ∷ rest) next last are =
        moves_then first step.machine last (turn_trail bridge first step.turn step.bridge step.machine are.0) (turns_trail step.bridge step.machine rest next last are.1)

    pub turn_keeps : (bridge : BridgeState) (old : MachineState) (turn : Turn) (next : BridgeState) (new : MachineState) → IsTurn tells client budget bridge old turn next new
        → IsMachine old → IsMachine new
    turn_keeps bridge old turn next new is machine = let trail = turn_trail bridge old turn next new is in events_keep tells old new trail.0 trail.1 machine

    pub turn_goes_on : tells → (bridge : BridgeState) (old : MachineState) (turn : Turn) (next : BridgeState) (new : MachineState) → IsTurn tells client budget bridge old turn next new
        → (n : ℕ) × GoesOn n old new
    turn_goes_on told bridge old turn next new is =
        let trail = turn_trail bridge old turn next new is in (length trail.0, (events_are_shown tells told old new trail.0 trail.1).goes_on)

    pub turns_go_on : tells → (bridge : BridgeState) (first : MachineState) (steps : List Step) (next : BridgeState) (last : MachineState)
        → AreTurns tells client budget bridge first steps next last → (n : ℕ) × GoesOn n first last
    turns_go_on told bridge first steps next last are =
        let trail = turns_trail bridge first steps next last are in (length trail.0, (events_are_shown tells told first last trail.0 trail.1).goes_on)

    -- behind a turn the client is still that of the machine's own table
    pub own_on : tells → (bridge : BridgeState) (old : MachineState) (turn : Turn) (next : BridgeState) (new : MachineState) → IsTurn tells client budget bridge old turn next new
        → client ≡ own_client old → client ≡ own_client new
    own_on told bridge old turn next new is own = own ∙ sym (own_client-same old new (turn_goes_on told bridge old turn next new is).1.equivalent.layout)
