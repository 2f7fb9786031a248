-- A bridge stays in step with the handover of its machine.
use Rattle.std.proofs.Common.{ℕ, List, [], ◌∷◌, Ok, Err, sym, subst}
use Rattle.ghes_ack.specs.declared.events.Side.TheVariants.{Firmware, Reader}
use Rattle.ghes_ack.specs.declared.events.Event.{Event}
use Rattle.ghes_ack.specs.Machine.{Machine, turned}
use Rattle.erst_client.specs.Commands.{ClientState}
use Rattle.erst_client.proofs.CommandLemmas.{writes_on}
use Rattle.erst_machine.specs.MachineState.{MachineState}
use Rattle.erst_machine.specs.Allowed.{Allows}
use Rattle.erst_machine.specs.Stations.{apart}
use Rattle.erst_bridge.specs.declared.events.BridgeEvent.{BridgeEvent}
use Rattle.erst_bridge.specs.declared.events.BridgeEvent.TheVariants.{Line, Stored, Kept, Out}
use Rattle.erst_bridge.specs.BridgedRecord.{bridged}
use Rattle.erst_bridge.specs.Bridges.{BridgeState, after_reader, TurnsReader, Stores, Keeps, RunsOut}
use Rattle.erst_bridge.specs.InStep.{IsInStep, IsInOrder}
use Rattle.erst_bridge.proofs.InStepLemmas.{stays, order}
use Rattle.erst_bridge.specs.Turns.{BridgesMachine, Turn, OfFirmware, OfBridge, Step, IsTurn, AreTurns}
use Rattle.erst_bridge.specs.MachinesInStep.{StandsInStep, KeepOrder}
use Rattle.erst_bridge.proofs.HandoverLemmas.{firmware_in_step}
use Rattle.erst_bridge.proofs.Terms.{KeepsOrder, last_of}

-- the state of the handover machine behind a turn
abbrev pub handover_after : Turn → Machine → Machine
handover_after (OfFirmware event) m = (turned Firmware m).1
handover_after (OfBridge (Line event)) m = (turned Reader m).1
handover_after (OfBridge (Stored id)) m = m
handover_after (OfBridge (Kept error)) m = m
handover_after (OfBridge Out) m = m

-- a turn in order, and in step behind it
abbrev pub InOrderThen : Machine → BridgeState → Turn → BridgeState → MachineState → Type 0
InOrderThen m bridge turn next new = KeepsOrder bridge turn × StandsInStep next new (handover_after turn m)

module _ (tells : Type 0) (client : ClientState) (budget : ℕ) where
  bridge_in_step : (old : MachineState) (bridge : BridgeState) (event : BridgeEvent) (next : BridgeState) (left : ℕ) (new : MachineState) (m : Machine)
      → BridgesMachine tells client budget old bridge event next left new → StandsInStep bridge old m → InOrderThen m bridge (OfBridge event) next new
  bridge_in_step old bridge event next left new m turn paired =
      elim turn as (λ bridge event after turn. StandsInStep bridge old m → InOrderThen m bridge (OfBridge event) after.bridge after.station) [
        | TurnsReader id bridge event new none reads ↦ λ paired.
            let t = reads.turned m paired.stands in (
              subst (λ (e : Event). IsInOrder bridge (Line e)) (sym t.event_is) (order old.handover.map.len id bridge m paired.stands.state paired.step none),
              record {
                stands = t.stands;
                step = subst (λ (e : Event). IsInStep (after_reader e id (last_of new) bridge) (turned Reader m).1) (sym t.event_is)
                    (stays old.handover.map.len id bridge m paired.stands.state paired.step none (last_of new) t.stands.last);
              },
            )
        | Stores id block left new small writes ↦ λ paired. (
          tt,
          record { stands = apart tells old new m (writes_on (Allows tells) client (bridged block id) budget old (Ok tt) left new writes) paired.stands; step = paired.step.0 },
        )
        | Keeps id block error left new small writes ↦ λ paired. (
          tt,
          record { stands = apart tells old new m (writes_on (Allows tells) client (bridged block id) budget old (Err error) left new writes) paired.stands; step = paired.step },
        )
        | RunsOut id block last ↦ λ paired. (tt, paired)
      ] paired

  pub turn_in_step : (bridge : BridgeState) (old : MachineState) (turn : Turn) (next : BridgeState) (new : MachineState) (m : Machine)
      → IsTurn tells client budget bridge old turn next new → StandsInStep bridge old m → InOrderThen m bridge turn next new
  turn_in_step bridge old (OfFirmware event) next new m is paired =
      let t = is.1.turned m paired.stands in (
        tt,
        subst (λ (b : BridgeState). StandsInStep b new (turned Firmware m).1) (sym is.0) (record { stands = t.stands; step = firmware_in_step bridge m paired.step }),
      )
  turn_in_step bridge old (OfBridge event) next new m is paired = bridge_in_step old bridge event next is.0 new m is.1 paired

  pub turns_in_step : (bridge : BridgeState) (first : MachineState) (steps : List Step) (next : BridgeState) (last : MachineState) (m : Machine)
      → AreTurns tells client budget bridge first steps next last → StandsInStep bridge first m → KeepOrder bridge steps × ((also : Machine) × StandsInStep next last also)
  turns_in_step bridge first [] next last m are paired =
      (tt, (m, subst (λ (b : BridgeState). StandsInStep b last m) (sym are.0) (subst (λ (s : MachineState). StandsInStep bridge s m) (sym are.1) paired)))
  turns_in_step bridge first (step ∷ rest) next last m are paired =
      let one = turn_in_step bridge first step.turn step.bridge step.machine m are.0 paired in
      let more = turns_in_step step.bridge step.machine rest next last (handover_after step.turn m) are.1 one.1 in
      ((one.0, more.0), more.1)
