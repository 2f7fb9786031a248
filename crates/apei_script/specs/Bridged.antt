-- Lines of the bridge: the one that turns it on, and turns while it is on.
use Rattle.std.specs.Prelude.{◌≡◌, ℕ, ◌≤◌, not, if◌then◌else◌, List, [], ◌∷◌, ◌++◌, codes, decimal, map, Option, Some, None, Ok, Err}
use Rattle.std.specs.List.{flat_map}
use Rattle.base_model.specs.Flash.{CrashImage, image_at}
use Rattle.record_model.specs.Records.{is_reserved, Stored as Records}
use Rattle.ghes_ack.specs.declared.events.Event.TheVariants.{Took}
use Rattle.ghes_ack.specs.Machine.{Machine as HandoverMachine, is_idle}
use Rattle.erst_machine.specs.MachineState.{MachineState, records_of, told_of}
use Rattle.erst_machine.specs.Shown.{shown_by, changes_of}
use Rattle.erst_commands.specs.Writes.{WriteAnswered, marked}
use Rattle.erst_bridge.specs.declared.events.BridgeEvent.TheVariants.{Line as ByReader, Stored, Kept, Out}
use Rattle.erst_bridge.specs.BridgedRecord.{bridged}
use Rattle.erst_bridge.specs.Bridges.{BridgeState, Off, Awaits, Holds}
use Rattle.erst_bridge.specs.Turns.{Turn, OfFirmware, OfBridge, Step, AreTurns}
use Rattle.erst_bridge.specs.Shown.{ShowsTurns, IsStoredAs}
use Rattle.erst_bridge.specs.MachinesInStep.{StandsInStep}
use Rattle.erst_bridge.specs.Prefixes.{HasPrefix, bytes_in}
use Rattle.erst_bridge.specs.declared.made.MadeTurn.{MadeTurn}
use Rattle.erst_bridge.specs.Made.{turn_of, sides_in, AreCounted}
use Rattle.apei_script.specs.ClientWords.{words_of_client}
use Rattle.script_text.specs.ScriptGrammar.{Line, turns, bridge}
use Rattle.apei_script.specs.Players.{PlayerState, budget_of}
use Rattle.apei_script.specs.Words.{Reply, at_step, said_at, refused, word_of, words_of_block}
use Rattle.script_text.specs.Turns.{side_of}

-- how many flash changes were made so far
abbrev pub changes_in : MachineState → ℕ
changes_in machine = machine.device.store.flash.steps

-- why a line does not turn the bridge on: the first reason that applies
abbrev pub bridge_refusal : PlayerState → ℕ → Option (List ℕ)
bridge_refusal old id =
    if is_reserved id then Some (codes "id")
    else elim old.bridge [
      | Off ↦ if not (is_idle old.machine.handover.situation) then Some (codes "reading") else None
      | on ↦ Some (codes "on")
    ]

-- a turn that left so many flash changes
abbrev pub words_of_turn : Turn → ℕ → List ℕ
words_of_turn (OfFirmware event) changes = word_of event
words_of_turn (OfBridge (ByReader event)) changes = word_of event
words_of_turn (OfBridge (Stored id)) changes = codes "stored " ++ decimal id ++ codes " " ++ decimal changes
words_of_turn (OfBridge (Kept error)) changes = codes "kept " ++ decimal changes ++ codes " " ++ words_of_client error
words_of_turn (OfBridge Out) changes = codes "out"

abbrev pub words_of_steps : List Step → List ℕ
words_of_steps steps = codes "turns" ++ flat_map (λ (step : Step). codes " " ++ words_of_turn step.turn (changes_in step.machine)) steps

-- the same of turns as they are kept
abbrev pub words_of_made : List MadeTurn → List ℕ
words_of_made made = codes "turns" ++ flat_map (λ (one : MadeTurn). codes " " ++ words_of_turn (turn_of one.turn) one.step) made

-- a turn of the bridge took a block
abbrev pub HasTaken : Turn → Type 0
HasTaken (OfBridge (ByReader Took)) = Unit {0}
HasTaken turn = ⊥

-- the block of a turn that took one, which is the one taken last
abbrev pub block_of : Turn → List ℕ → List (List ℕ)
block_of (OfBridge (ByReader Took)) last = last ∷ []
block_of turn last = []

-- the replies to turns: a block's line, written when it is taken, and the line of all turns behind the last of them
abbrev pub replies_of : ℕ → List Step → List Reply
replies_of changes steps =
    flat_map (λ (step : Step). said_at (changes_in step.machine) (map words_of_block (block_of step.turn step.machine.handover.last))) steps
    ++ at_step changes (words_of_steps steps) ∷ []

-- A line of the bridge: its replies, the blocks of which the listeners are told, the turns that were made, and the bridge and the machine
-- afterwards. The bridge writes by the machine's own table, whatever table is in use, and each of its turns has the steps of a line
pub data ByBridge (tells : Type 0) (old : PlayerState) : Line → List Reply → List (List ℕ) → List Step → BridgeState → MachineState → Type 0 where
  Enters : (id : ℕ) → bridge_refusal old id ≡ None
      → ByBridge tells old (bridge id) (said_at (changes_in old.machine) ((codes "bridge " ++ decimal id) ∷ [])) [] [] (Awaits id) old.machine
  StaysAs : (id : ℕ) (why : List ℕ) → bridge_refusal old id ≡ Some why
      → ByBridge tells old (bridge id) (said_at (changes_in old.machine) (refused why ∷ [])) [] [] old.bridge old.machine
  BridgesTurns : (letters : List ℕ) (steps : List Step) (next : BridgeState) (machine : MachineState) → (old.bridge ≡ Off → ⊥)
      → AreTurns tells old.own (budget_of old) old.bridge old.machine steps next machine → sides_in steps ≡ map side_of letters → (tells → AreCounted steps)
      → ByBridge tells old (turns letters) (replies_of (changes_in machine) steps)
      (flat_map (λ (step : Step). block_of step.turn step.machine.handover.last) steps) steps next machine

-- something is so of each of these turns, by the bridge and the machine before it and by what it left
abbrev pub EachTurn : (BridgeState → MachineState → Step → Type 0) → BridgeState → MachineState → List Step → Type 0
EachTurn IsSo state old [] = Unit {0}
EachTurn IsSo state old (step ∷ rest) = IsSo state old step × EachTurn IsSo step.bridge step.machine rest

-- the record of each block that a turn stored is among these, where power was lost at a step from the end of the turn on, as long as the
-- block's identifier is spared
abbrev pub KeepsBlocks : (ℕ → Type 0) → ℕ → BridgeState → MachineState → List Step → Records → Type 0
KeepsBlocks spared s state old steps shown = EachTurn (λ now before step. elim step.turn [
  | OfBridge (Stored id) ↦
      (block : List ℕ) × (now ≡ Holds id block) × (spared id → changes_of step.machine ≤ s → IsStoredAs id (marked (bridged block id)) shown)
  | other ↦ Unit {0}
]) state old steps

-- What power lost in the turns of a line shows, and what the turns make of the records. A line that made no turn of the bridge is none of these
pub record TurnsShown (budget : ℕ) (state : BridgeState) (old : MachineState) (steps : List Step) (new : MachineState) : Type 0 where
  -- the records after the turns that had ended by then, or as the next one leaves them where nothing fails
  pub each : (steps ≡ [] → ⊥) → (s : ℕ) (image : List ℕ) → changes_of old ≤ s → CrashImage (told_of new) s image → ShowsTurns s state old steps (shown_by old image)
  -- so also the records from before them, with those of the first blocks that were held, or submitted and not yet taken
  pub first : (steps ≡ [] → ⊥) → (m : HandoverMachine) → StandsInStep state old m → (s : ℕ) (image : List ℕ) → changes_of old ≤ s → CrashImage (told_of new) s image
      → HasPrefix state m (bytes_in (records_of old)) (shown_by old image)
  -- and the record of each block that they had stored by then
  pub stored : (s : ℕ) (image : List ℕ) → changes_of old ≤ s → CrashImage (told_of new) s image
      → KeepsBlocks (λ id. Unit {0}) s state old steps (shown_by old image)
  -- Each turn makes of the records what the record map has it make: one that is answered `Stored` or `Kept` is a write of the held block's
  -- record, with so many steps, answered as the map has it; `Out` leaves everything, and each other turn leaves the device and its records
  pub mapped : EachTurn (λ now before step. elim step.turn [
    | OfBridge (Stored id) ↦
        (block : List ℕ) × (left : ℕ) × (now ≡ Holds id block) × WriteAnswered (bridged block id) budget before (Ok tt) left step.machine
    | OfBridge (Kept error) ↦
        (id : ℕ) × (block : List ℕ) × (left : ℕ) × (now ≡ Holds id block) × WriteAnswered (bridged block id) budget before (Err error) left step.machine
    | OfBridge Out ↦ step.machine ≡ before
    | other ↦ step.machine.device ≡ before.device
  ]) state old steps
  -- and at the step at which each turn ended the image showed the records that it leaves
  pub ends : EachTurn (λ now before step. shown_by before (image_at (told_of new) (changes_of step.machine)) ≡ records_of step.machine) state old steps
