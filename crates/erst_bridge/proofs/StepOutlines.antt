-- Turns of both sides of two machines that are equivalent, one after another.
use Rattle.std.proofs.Common.{◌≡◌, ◌∙◌, ℕ, ◌≤◌, List, [], ◌∷◌, map, refl, sym, ap, subst}
use Rattle.ghes_ack.specs.declared.events.Side.TheVariants.{Firmware}
use Rattle.ghes_ack.specs.declared.events.Event.{Event}
use Rattle.erst_client.specs.Commands.{ClientState}
use Rattle.erst_machine.specs.MachineState.{MachineState}
use Rattle.erst_machine.specs.Events.{Turns}
use Rattle.erst_commands.specs.Equivalence.{MachineOutline, machine_outline, EquivalentMachines, FailedNothing, IsDoneAlike}
use Rattle.erst_commands.proofs.Dialogues.{quiet_first, quiet_second}
use Rattle.erst_bridge.specs.declared.events.BridgeEvent.{BridgeEvent}
use Rattle.erst_bridge.specs.Bridges.{BridgeState}
use Rattle.erst_bridge.specs.Turns.{BridgesMachine, Turn, OfFirmware, OfBridge, Step, IsTurn, AreTurns}
use Rattle.erst_bridge.proofs.TrailLemmas.{turn_goes_on, turns_go_on}
use Rattle.erst_bridge.specs.declared.made.MadeTurn.{MadeTurn}
use Rattle.erst_bridge.specs.Made.{side_in, sides_in, made_by}
use Rattle.erst_bridge.specs.EquivalentSteps.{StepOutline, step_outline, EquivalentSteps}
use Rattle.erst_bridge.proofs.Terms.{told_turn}

abbrev faults_of : MachineState → ℕ
faults_of state = state.device.store.flash.faults

same_outline : (a b : StepOutline) → a.turn ≡ b.turn → a.bridge ≡ b.bridge → a.machine ≡ b.machine → a ≡ b
same_outline a b turn bridge machine =
    ap (λ (t : Turn). record a { turn = t }) turn ∙ ap (λ (s : BridgeState). record a { turn = b.turn; bridge = s }) bridge ∙ ap (λ (m : MachineOutline). record b { machine = m }) machine

-- two turns did the same, left the same bridge, and machines that are equivalent
abbrev EndsAlike : Turn → Turn → BridgeState → BridgeState → MachineState → MachineState → Type 0
EndsAlike turn also next also_next one_after other_after = (turn ≡ also) × (next ≡ also_next) × EquivalentMachines one_after other_after

module _ (tells : Type 0) (client : ClientState) (budget : ℕ) where
  module _ (bridges : (bridge : BridgeState) → IsDoneAlike {A = BridgeEvent × BridgeState} (λ first answer left last. BridgesMachine tells client budget first bridge answer.0 answer.1 left last))
      (fills : (one other : MachineState) (event also : Event) (one_after other_after : MachineState) → EquivalentMachines one other →
      Turns Firmware one event one_after → Turns Firmware other also other_after
      → (event ≡ also) × EquivalentMachines one_after other_after) where
    pub turn_alike : (bridge : BridgeState) (one other : MachineState) (turn also : Turn) (next also_next : BridgeState) (one_after other_after : MachineState)
        → EquivalentMachines one other → side_in turn ≡ side_in also → IsTurn tells client budget bridge one turn next one_after → FailedNothing one one_after
        → IsTurn tells client budget bridge other also also_next other_after → FailedNothing other other_after → EndsAlike turn also next also_next one_after other_after
    turn_alike bridge one other (OfFirmware event) (OfFirmware also) next also_next one_after other_after equivalent same first quiet second also_quiet =
        let both = fills one other event also one_after other_after equivalent first.1 second.1 in (ap OfFirmware both.0, first.0 ∙ sym second.0, both.1)
    turn_alike bridge one other (OfBridge event) (OfBridge also) next also_next one_after other_after equivalent same first quiet second also_quiet =
        let both = bridges bridge one other (event, next) (also, also_next) first.0 second.0 one_after other_after equivalent first.1 quiet second.1 also_quiet in
        (ap (λ (a : BridgeEvent × BridgeState). OfBridge a.0) both.same_answer, ap (λ (a : BridgeEvent × BridgeState). a.1) both.same_answer, both.equivalent)
    turn_alike bridge one other (OfFirmware event) (OfBridge also) next also_next one_after other_after equivalent same first quiet second also_quiet = absurd (cc same)
    turn_alike bridge one other (OfBridge event) (OfFirmware also) next also_next one_after other_after equivalent same first quiet second also_quiet = absurd (cc same)

  module _ (told : tells)
      (turns : (bridge : BridgeState) (one other : MachineState) (turn also : Turn) (next also_next : BridgeState) (one_after other_after : MachineState)
      → EquivalentMachines one other → side_in turn ≡ side_in also → IsTurn tells client budget bridge one turn next one_after → FailedNothing one one_after
      → IsTurn tells client budget bridge other also also_next other_after → FailedNothing other other_after → EndsAlike turn also next also_next one_after other_after) where
    grows : (bridge : BridgeState) (old : MachineState) (turn : Turn) (next : BridgeState) (new : MachineState) → IsTurn tells client budget bridge old turn next new → faults_of old ≤ faults_of new
    grows bridge old turn next new is = (turn_goes_on tells client budget told bridge old turn next new is).1.never_falls

    all_grow : (bridge : BridgeState) (first : MachineState) (steps : List Step) (next : BridgeState) (last : MachineState) →
        AreTurns tells client budget bridge first steps next last → faults_of first ≤ faults_of last
    all_grow bridge first steps next last are = (turns_go_on tells client budget told bridge first steps next last are).1.never_falls

    pub steps_alike : (steps others : List Step) (bridge : BridgeState) (one other : MachineState) (next also_next : BridgeState) (one_after other_after : MachineState)
        → EquivalentMachines one other → sides_in steps ≡ sides_in others
        → AreTurns tells client budget bridge one steps next one_after → FailedNothing one one_after
        → AreTurns tells client budget bridge other others also_next other_after → FailedNothing other other_after
        → EquivalentSteps steps others × (next ≡ also_next) × EquivalentMachines one_after other_after
    steps_alike [] [] bridge one other next also_next one_after other_after equivalent same first quiet second also_quiet =
        (refl, first.0 ∙ sym second.0, ap machine_outline first.1 ∙ equivalent ∙ sym (ap machine_outline second.1))
    steps_alike (step ∷ rest) (also ∷ more) bridge one other next also_next one_after other_after equivalent same first quiet second also_quiet =
        let head : side_in step.turn ≡ side_in also.turn = cc in
        let tail : sides_in rest ≡ sides_in more = cc in
        let one_step = grows bridge one step.turn step.bridge step.machine first.0 in
        let one_rest = all_grow step.bridge step.machine rest next one_after first.1 in
        let other_step = grows bridge other also.turn also.bridge also.machine second.0 in
        let other_rest = all_grow also.bridge also.machine more also_next other_after second.1 in
        let both = turns bridge one other step.turn also.turn step.bridge also.bridge step.machine also.machine equivalent head
        first.0 (quiet_first (faults_of one) (faults_of step.machine) (faults_of one_after) one_step one_rest quiet)
        second.0 (quiet_first (faults_of other) (faults_of also.machine) (faults_of other_after) other_step other_rest also_quiet) in
        let behind = steps_alike rest more step.bridge step.machine also.machine next also_next one_after other_after both.2 tail
        first.1 (quiet_second (faults_of one) (faults_of step.machine) (faults_of one_after) one_step one_rest quiet)
        (subst (λ (b : BridgeState). AreTurns tells client budget b also.machine more also_next other_after) (sym both.1) second.1)
        (quiet_second (faults_of other) (faults_of also.machine) (faults_of other_after) other_step other_rest also_quiet) in
        let outlines : step_outline step ≡ step_outline also = same_outline (step_outline step) (step_outline also) both.0 both.1 both.2 in
        (ap (λ (o : StepOutline). o ∷ map step_outline rest) outlines ∙ ap (λ (os : List StepOutline). step_outline also ∷ os) behind.0, behind.1, behind.2)
    steps_alike [] (also ∷ more) bridge one other next also_next one_after other_after equivalent same first quiet second also_quiet = absurd (cc same)
    steps_alike (step ∷ rest) [] bridge one other next also_next one_after other_after equivalent same first quiet second also_quiet = absurd (cc same)

-- what is told of turns by their outlines is the same
pub told_alike : {A : Type 0} (told : Step → A) (seen : StepOutline → A) → ((step : Step) → told step ≡ seen (step_outline step)) → (steps others : List Step) →
    EquivalentSteps steps others → map told steps ≡ map told others
told_alike {A} told seen is steps others equivalent = by_outlines steps ∙ ap (λ (os : List StepOutline). map seen os) equivalent ∙ sym (by_outlines others)
  where
    by_outlines : (steps : List Step) → map told steps ≡ map seen (map step_outline steps)
    by_outlines [] = refl
    by_outlines (step ∷ rest) = ap (λ (x : A). x ∷ map told rest) (is step) ∙ ap (λ (xs : List A). seen (step_outline step) ∷ xs) (by_outlines rest)

pub made_alike : (steps others : List Step) → EquivalentSteps steps others → made_by steps ≡ made_by others
made_alike steps others equivalent =
    as_map steps ∙ told_alike one_made (λ outline. record { turn = told_turn outline.turn; step = outline.machine.device.store.steps }) (λ step. refl) steps
    others equivalent ∙ sym (as_map others)
  where
    one_made : Step → MadeTurn
    one_made step = record { turn = told_turn step.turn; step = step.machine.device.store.flash.steps }

    as_map : (steps : List Step) → made_by steps ≡ map one_made steps
    as_map [] = refl
    as_map (step ∷ rest) = ap (λ (xs : List MadeTurn). one_made step ∷ xs) (as_map rest)
