-- While the reader gives a block back, the block's record is stored.
use Rattle.std.proofs.Common.{◌≡◌, ℕ, List, [], ◌∷◌, Ok, refl, sym, ap, subst, arith}
use Rattle.record_model.specs.Records.{Stored as Records}
use Rattle.ghes_ack.specs.declared.events.Side.TheVariants.{Firmware, Reader}
use Rattle.ghes_ack.specs.declared.events.Event.{Event}
use Rattle.ghes_ack.specs.Machine.{Machine, Situation, Filling, Published, Reading, Cleared, Acknowledged, last_taken, turned, reader_turn}
use Rattle.ghes_ack.proofs.Terms.{Turned}
use Rattle.erst_device.specs.DeviceState.{DeviceState}
use Rattle.erst_client.specs.Commands.{ClientState}
use Rattle.erst_machine.specs.MachineState.{MachineState, IsMachine, records_of}
use Rattle.erst_commands.specs.OwnPrograms.{OwnProgramsRun}
use Rattle.erst_commands.specs.Attached.{own_client}
use Rattle.erst_bridge.specs.declared.events.BridgeEvent.{BridgeEvent}
use Rattle.erst_bridge.specs.BridgedRecord.{bridged}
use Rattle.erst_bridge.specs.Bridges.{BridgeState, Off, Awaits, Holds, Releases, HoldsNone, after_reader, TurnsReader, Stores, Keeps, RunsOut}
use Rattle.erst_bridge.proofs.InStepLemmas.{reading_cases}
use Rattle.erst_bridge.proofs.TurnLemmas.{reader_cases}
use Rattle.erst_bridge.specs.Turns.{BridgesMachine, Turn, OfFirmware, OfBridge, Step, IsTurn, AreTurns}
use Rattle.erst_bridge.specs.MachinesInStep.{StandsInStep}
use Rattle.erst_bridge.specs.Shown.{IsStoredAs, IsCovered}
use Rattle.erst_bridge.proofs.TrailLemmas.{turn_keeps, own_on}
use Rattle.erst_bridge.proofs.HandoverLemmas.{firmware_same, last_same}
use Rattle.erst_bridge.proofs.MachinesInStepLemmas.{handover_after, turn_in_step}
use Rattle.erst_bridge.proofs.CrashLemmas.{own_write}
use Rattle.erst_bridge.proofs.KeptRecordLemmas.{answer_stores}
use Rattle.erst_bridge.proofs.Terms.{last_of, stored_record}

covered_same : (bridge : BridgeState) (m new : Machine) (stored now : Records) → last_taken new ≡ last_taken m → now ≡ stored → IsCovered bridge m stored → IsCovered bridge new now
covered_same Off m new stored now last same covered = tt
covered_same (Awaits n) m new stored now last same covered = tt
covered_same (Holds n block) m new stored now last same covered = tt
covered_same (Releases n) m new stored now last same covered = (
  covered.0,
  covered.1,
  subst (λ (block : List ℕ). IsStoredAs covered.0 (stored_record block covered.0) now) (sym last)
      (subst (λ (r : Records). IsStoredAs covered.0 (stored_record (last_taken m) covered.0) r) (sym same) covered.2),
)

covered_in : (id : ℕ) (bridge : BridgeState) (m : Machine) (s : Situation) (block : List ℕ) (stored : Records) → HoldsNone id bridge → IsCovered bridge m stored
    → IsCovered (after_reader (reader_turn m s).0 id block bridge) (reader_turn m s).1 stored
covered_in id Off m s block stored none covered = absurd none
covered_in id (Holds n other) m s block stored none covered = absurd none
covered_in id (Awaits n) m s block stored none covered = reader_cases (λ b. IsCovered b (reader_turn m s).1 stored) (reader_turn m s).0 id block (Awaits n) tt tt tt
covered_in id (Releases n) m Filling block stored none covered = covered
covered_in id (Releases n) m Published block stored none covered = covered
covered_in id (Releases n) m Reading block stored none covered =
    reading_cases (λ (t : Turned). IsCovered (after_reader t.0 id block (Releases n)) t.1 stored) m (λ more. covered) (λ some. tt) (λ all. covered)
covered_in id (Releases n) m Cleared block stored none covered = tt
covered_in id (Releases n) m Acknowledged block stored none covered = covered

same_records : (old new : MachineState) → new.device ≡ old.device → records_of new ≡ records_of old
same_records old new device = ap (λ (d : DeviceState). records_of (record old { device = d })) device

module _ (tells : Type 0) (run : OwnProgramsRun tells) (told : tells) (client : ClientState) (budget : ℕ) where
  bridge_covered : (old : MachineState) → client ≡ own_client old → IsMachine old → (bridge : BridgeState) (event : BridgeEvent) (next : BridgeState) (left : ℕ) (new : MachineState) (m : Machine)
      → BridgesMachine tells client budget old bridge event next left new → StandsInStep bridge old m → IsCovered bridge m (records_of old) →
      IsCovered next (handover_after (OfBridge event) m) (records_of new)
  bridge_covered old own machine bridge event next left new m turn paired covered =
      elim turn as (λ bridge event after turn. StandsInStep bridge old m → IsCovered bridge m (records_of old) →
      IsCovered after.bridge (handover_after (OfBridge event) m) (records_of after.station)) [
        | TurnsReader id bridge event new none reads ↦ λ paired covered.
            subst (λ (e : Event). IsCovered (after_reader e id (last_of new) bridge) (turned Reader m).1 (records_of new)) (sym (reads.turned m paired.stands).event_is)
            (subst (λ (r : Records). IsCovered (after_reader (turned Reader m).0 id (last_of new) bridge) (turned Reader m).1 r) (sym (same_records old new reads.device))
            (covered_in id bridge m m.situation (last_of new) (records_of old) none covered))
        | Stores id block left new small writes ↦ λ paired covered. (
          id,
          refl,
          subst (λ (b : List ℕ). IsStoredAs id (stored_record b id) (records_of new)) paired.step.2
              (answer_stores block id budget old left new (omega arith) (own_write tells run told client budget old own machine (bridged block id) (Ok tt) left new writes)),
        )
        | Keeps id block error left new small writes ↦ λ paired covered. tt
        | RunsOut id block last ↦ λ paired covered. tt
      ] paired covered

  turn_covered : (bridge : BridgeState) (old : MachineState) (turn : Turn) (next : BridgeState) (new : MachineState) (m : Machine) → client ≡ own_client old → IsMachine old
      → IsTurn tells client budget bridge old turn next new → StandsInStep bridge old m → IsCovered bridge m (records_of old) → IsCovered next (handover_after turn m) (records_of new)
  turn_covered bridge old (OfFirmware event) next new m own machine is paired covered =
      let same = firmware_same m m.situation in
      subst (λ (b : BridgeState). IsCovered b (turned Firmware m).1 (records_of new)) (sym is.0)
      (covered_same bridge m (turned Firmware m).1 (records_of old) (records_of new) (last_same m (turned Firmware m).1 same.taken same.blocks) (same_records old new is.1.device) covered)
  turn_covered bridge old (OfBridge event) next new m own machine is paired covered = bridge_covered old own machine bridge event next is.0 new m is.1 paired covered

  pub turns_covered : (bridge : BridgeState) (first : MachineState) (steps : List Step) (next : BridgeState) (last : MachineState) (m : Machine) → client ≡ own_client first → IsMachine first
      → AreTurns tells client budget bridge first steps next last → StandsInStep bridge first m → IsCovered bridge m (records_of first)
      → (also : Machine) × StandsInStep next last also × IsCovered next also (records_of last)
  turns_covered bridge first [] next last m own machine are paired covered =
      let first_is = sym are.1 in
      let bridge_is = sym are.0 in (
        m,
        subst (λ (b : BridgeState). StandsInStep b last m) bridge_is (subst (λ (s : MachineState). StandsInStep bridge s m) first_is paired),
        subst (λ (b : BridgeState). IsCovered b m (records_of last)) bridge_is (subst (λ (s : MachineState). IsCovered bridge m (records_of s)) first_is covered),
      )
  turns_covered bridge first (step ∷ rest) next last m own machine are paired covered =
      turns_covered step.bridge step.machine rest next last (handover_after step.turn m)
      (own_on tells client budget told bridge first step.turn step.bridge step.machine are.0 own)
      (turn_keeps tells client budget bridge first step.turn step.bridge step.machine are.0 machine) are.1
      (turn_in_step tells client budget bridge first step.turn step.bridge step.machine m are.0 paired).1
      (turn_covered bridge first step.turn step.bridge step.machine m own machine are.0 paired covered)
