-- What turns under a bridge make of the records is what the record map has them make.
use Rattle.std.proofs.Common.{◌≡◌, ◌∙◌, ℕ, List, [], ◌∷◌, Ok, Err, refl, sym, ap, arith}
use Rattle.base_model.specs.Flash.{image_at}
use Rattle.base_model.proofs.CrashLemmas.{image_at-later, image_at-now}
use Rattle.erst_client.specs.Commands.{ClientState}
use Rattle.erst_machine.specs.MachineState.{MachineState, IsMachine, records_of, told_of}
use Rattle.erst_machine.specs.Shown.{changes_of, shown_by}
use Rattle.erst_machine.proofs.CrashTrail.{shown_alike}
use Rattle.erst_commands.specs.Attached.{own_client}
use Rattle.erst_commands.specs.OwnPrograms.{OwnProgramsRun}
use Rattle.erst_commands.specs.Writes.{WriteAnswered}
use Rattle.erst_bridge.specs.declared.events.BridgeEvent.TheVariants.{Stored, Kept, Out}
use Rattle.erst_bridge.specs.BridgedRecord.{bridged}
use Rattle.erst_bridge.specs.Bridges.{BridgeState, Holds, TurnsReader, Stores, Keeps, RunsOut}
use Rattle.erst_bridge.specs.Turns.{Turn, OfFirmware, OfBridge, Step, IsTurn, AreTurns}
use Rattle.erst_bridge.proofs.TrailLemmas.{turn_keeps, turn_goes_on, turns_go_on, own_on}
use Rattle.erst_bridge.proofs.CrashLemmas.{own_write}
use Rattle.apei_script.specs.Bridged.{EachTurn}

-- a turn makes of the records what the record map has it make
abbrev IsMapped : ℕ → BridgeState → MachineState → Turn → MachineState → Type 0
IsMapped budget state old turn new = elim turn [
  | OfBridge (Stored id) ↦ (block : List ℕ) × (left : ℕ) × (state ≡ Holds id block) × WriteAnswered (bridged block id) budget old (Ok tt) left new
  | OfBridge (Kept error) ↦ (id : ℕ) × (block : List ℕ) × (left : ℕ) × (state ≡ Holds id block) × WriteAnswered (bridged block id) budget old (Err error) left new
  | OfBridge Out ↦ new ≡ old
  | other ↦ new.device ≡ old.device
]

module _ (tells : Type 0) (programs : OwnProgramsRun tells) (told : tells) (client : ClientState) (budget : ℕ) where
  turn_mapped : (state : BridgeState) (old : MachineState) (turn : Turn) (next : BridgeState) (new : MachineState) → client ≡ own_client old → IsMachine old
      → IsTurn tells client budget state old turn next new → IsMapped budget state old turn new
  turn_mapped state old (OfFirmware event) next new own machine is = is.1.device
  turn_mapped state old (OfBridge event) next new own machine is = elim is.1 as (λ state event after turn. IsMapped budget state old (OfBridge event) after.station) [
    | TurnsReader id bridge event new none reads ↦ reads.device
    | Stores id block left new small writes ↦ (block, left, refl, own_write tells programs told client budget old own machine (bridged block id) (Ok tt) left new writes)
    | Keeps id block error left new small writes ↦ (id, block, left, refl, own_write tells programs told client budget old own machine (bridged block id) (Err error) left new writes)
    | RunsOut id block last ↦ refl
  ]

  pub turns_mapped : (state : BridgeState) (old : MachineState) (steps : List Step) (next : BridgeState) (last : MachineState) → client ≡ own_client old → IsMachine old
      → AreTurns tells client budget state old steps next last → EachTurn (λ now before step. IsMapped budget now before step.turn step.machine) state old steps
  turns_mapped state old [] next last own machine are = tt
  turns_mapped state old (step ∷ rest) next last own machine (first, behind) =
      let own_now = own_on tells client budget told state old step.turn step.bridge step.machine first own in
      let machine_now = turn_keeps tells client budget state old step.turn step.bridge step.machine first machine in
      (turn_mapped state old step.turn step.bridge step.machine own machine first, turns_mapped step.bridge step.machine rest next last own_now machine_now behind)

-- the image at the step at which a turn ended is the one that the turn left
module _ (tells : Type 0) (client : ClientState) (budget : ℕ) (told : tells) where
  pub turns_end : (state : BridgeState) (old : MachineState) (steps : List Step) (next : BridgeState) (last : MachineState)
      → AreTurns tells client budget state old steps next last →
      EachTurn (λ bridge before step. shown_by before (image_at (told_of last) (changes_of step.machine)) ≡ records_of step.machine) state old steps
  turns_end state old [] next last are = tt
  turns_end state old (step ∷ rest) next last (first, behind) =
      let left = step.machine in
      let equivalent = (turn_goes_on tells client budget told state old step.turn step.bridge left first).1.equivalent in
      let later = (turns_go_on tells client budget told step.bridge left rest next last behind).1.later in
      let image : image_at (told_of last) (changes_of left) ≡ (told_of left).image =
      image_at-later (told_of left) (told_of last) (changes_of left) later (omega arith) ∙ image_at-now (told_of left) (changes_of left) (omega arith) in (
        ap (shown_by old) image ∙ sym (shown_alike old left (told_of left).image equivalent),
        turns_end step.bridge left rest next last behind,
      )
