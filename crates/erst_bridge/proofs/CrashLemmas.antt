-- What power lost in a turn leaves of the records.
use Rattle.std.proofs.Common.{◌≡◌, ◌⊎◌, inl, inr, ℕ, List, Option, None, Result, Ok, Err, refl, sym, ap, subst, ◌∙◌}
use Rattle.std.specs.Prelude.{is_none, if◌then◌else◌}
use Rattle.base_model.specs.Flash.{Told, Leaves}
use Rattle.base_model.specs.Layout.{Layout}
use Rattle.base_model.specs.Bytes.{put_at}
use Rattle.base_model.proofs.CrashLemmas.{Leaves-none, Leaves-exit}
use Rattle.record_model.specs.Records.{Stored as Records}
use Rattle.record_model.specs.RecordMap.{Command, Write, after}
use Rattle.record_store.specs.Store.{records_of as records_in, KeepsOrMakes, stored}
use Rattle.erst_device.specs.DeviceState.{DeviceState}
use Rattle.erst_client.specs.declared.errors.ClientError.{ClientError}
use Rattle.erst_client.specs.declared.requests.Request.{Request}
use Rattle.erst_client.specs.Commands.{ClientState, Writes, write_refusal}
use Rattle.erst_client.specs.Sequences.{write_requests}
use Rattle.erst_machine.specs.MachineState.{MachineState, IsMachine, reach_in, records_of, told_of}
use Rattle.erst_machine.specs.Allowed.{Allows}
use Rattle.erst_machine.specs.Shown.{shown_by}
use Rattle.erst_commands.specs.OwnPrograms.{with_range, OwnProgramsRun}
use Rattle.erst_commands.specs.Attached.{own_client}
use Rattle.erst_commands.specs.Changes.{ChangeCommand, IsTaken, IsRefused, IsFailed, IsStopped}
use Rattle.erst_commands.specs.Writes.{WriteAnswered, IsNoRecord, IsWritten, marked, id_of}
use Rattle.erst_commands.proofs.WriteLemmas.{written}
use Rattle.erst_bridge.specs.declared.events.BridgeEvent.{BridgeEvent}
use Rattle.erst_bridge.specs.BridgedRecord.{bridged}
use Rattle.erst_bridge.specs.Bridges.{BridgeState, TurnsReader, Stores, Keeps, RunsOut}
use Rattle.erst_bridge.specs.Turns.{BridgesMachine, Turn, OfFirmware, OfBridge, IsTurn}
use Rattle.erst_bridge.specs.Shown.{after_turn}
use Rattle.erst_bridge.proofs.TrailLemmas.{turn_goes_on}
use Rattle.erst_bridge.proofs.Terms.{after_write}

-- power lost on the way from one machine to another leaves the records, or as they are given
abbrev LeavesEither : MachineState → Records → MachineState → Type 0
LeavesEither old made new = Leaves (told_of old) (told_of new) (λ image. (shown_by old image ≡ records_of old) ⊎ (shown_by old image ≡ made))

same_told : (old : MachineState) (made : Records) (new : MachineState) → told_of new ≡ told_of old → LeavesEither old made new
same_told old made new same =
    subst (λ (told : Told). Leaves (told_of old) told (λ image. (shown_by old image ≡ records_of old) ⊎ (shown_by old image ≡ made))) (sym same) (Leaves-none (told_of old) _ (inl refl))

command_crash : (first last : MachineState) (id : ℕ) (command : Command) (requests : List Request) (budget : ℕ) (result : Result (Unit {0}) ClientError) (left : ℕ)
    → ChangeCommand first last id command requests budget result left → KeepsOrMakes first.device.store last.device.store (after first.device.store.layout command (stored first.device.store))
command_crash first last id command requests budget result left made = elim made as (λ result left made. KeepsOrMakes first.device.store last.device.store
    (after first.device.store.layout command (stored first.device.store))) [
      | IsTaken pauses left taken now made spent ↦ made.leaves.crash
      | IsRefused refusal error left refused is now made spent ↦ made.leaves.crash
      | IsFailed pauses left usable rose either leaves few spent ↦ leaves.crash
      | IsStopped pauses leaves few short ↦ leaves.crash
    ]

pub after_write-fits : (old : MachineState) (bytes : List ℕ) → write_refusal bytes (reach_in old.device) ≡ None
    → after_write old bytes ≡ after old.device.store.layout (Write (id_of bytes) (marked bytes)) (records_of old)
after_write-fits old bytes fits =
    ap (λ (refusal : Option ClientError). if is_none refusal then after old.device.store.layout (Write (id_of bytes) (marked bytes)) (records_of old) else records_of old) fits

module _ (tells : Type 0) (run : OwnProgramsRun tells) (told : tells) (client : ClientState) (budget : ℕ) where
  -- a client's write by the machine's own table is answered as the map's
  pub own_write : (old : MachineState) → client ≡ own_client old → IsMachine old → (bytes : List ℕ) (result : Result (Unit {0}) ClientError) (left : ℕ) (new : MachineState)
      → Writes (Allows tells) client bytes budget old result left new → WriteAnswered bytes budget old result left new
  own_write old own machine bytes result left new writes =
      written tells run told bytes budget old result left new machine (subst (λ (c : ClientState). Writes (Allows tells) c bytes budget old result left new) own writes)

  write_crash : (old : MachineState) → client ≡ own_client old → IsMachine old → (bytes : List ℕ) (result : Result (Unit {0}) ClientError) (left : ℕ) (new : MachineState)
      → Writes (Allows tells) client bytes budget old result left new → LeavesEither old (after_write old bytes) new
  write_crash old own machine bytes result left new writes =
      elim (own_write old own machine bytes result left new writes) as (λ result left new answered. LeavesEither old (after_write old bytes) new) [
        | IsNoRecord error refused ↦ Leaves-none (told_of old) _ (inl refl)
        | IsWritten result left last fits made ↦
            subst (λ (made : Records). LeavesEither old made last) (sym (after_write-fits old bytes fits))
            (command_crash (with_range (put_at old.memory.range 0 (marked bytes)) old) last (id_of bytes) (Write (id_of bytes) (marked bytes)) write_requests budget result left made)
      ]

  bridge_crash : (old : MachineState) → client ≡ own_client old → IsMachine old → (bridge : BridgeState) (event : BridgeEvent) (next : BridgeState) (left : ℕ) (new : MachineState)
      → BridgesMachine tells client budget old bridge event next left new → LeavesEither old (after_turn bridge old (OfBridge event)) new
  bridge_crash old own machine bridge event next left new turn =
      elim turn as (λ bridge event after turn. LeavesEither old (after_turn bridge old (OfBridge event)) after.station) [
        | TurnsReader id bridge event new none reads ↦ same_told old _ new (ap (λ (d : DeviceState). d.store.flash.told) reads.device)
        | Stores id block left new small writes ↦ write_crash old own machine (bridged block id) (Ok tt) left new writes
        | Keeps id block error left new small writes ↦ write_crash old own machine (bridged block id) (Err error) left new writes
        | RunsOut id block last ↦ Leaves-none (told_of old) _ (inl refl)
      ]

  pub turn_crash : (bridge : BridgeState) (old : MachineState) (turn : Turn) (next : BridgeState) (new : MachineState) → client ≡ own_client old → IsMachine old
      → IsTurn tells client budget bridge old turn next new
      → Leaves (told_of old) (told_of new) (λ image. (shown_by old image ≡ records_of old) ⊎ (shown_by old image ≡ after_turn bridge old turn))
  turn_crash bridge old (OfFirmware event) next new own machine is = same_told old _ new (ap (λ (d : DeviceState). d.store.flash.told) is.1.device)
  turn_crash bridge old (OfBridge event) next new own machine is = bridge_crash old own machine bridge event next is.0 new is.1

  -- and so are the records at its end
  pub turn_records : (bridge : BridgeState) (old : MachineState) (turn : Turn) (next : BridgeState) (new : MachineState) → client ≡ own_client old → IsMachine old
      → IsTurn tells client budget bridge old turn next new → (records_of new ≡ records_of old) ⊎ (records_of new ≡ after_turn bridge old turn)
  turn_records bridge old turn next new own machine is =
      let equivalent = (turn_goes_on tells client budget told bridge old turn next new is).1.equivalent in
      let same : records_of new ≡ shown_by old (told_of new).image = ap (λ (l : Layout). records_in l (told_of new).image) equivalent.layout in
      elim (Leaves-exit (told_of old) (told_of new) _ (turn_crash bridge old turn next new own machine is)) [
        | inl kept ↦ inl (same ∙ kept)
        | inr made ↦ inr (same ∙ made)
      ]
