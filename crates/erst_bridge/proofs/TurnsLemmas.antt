-- One turn more behind others.
use Rattle.std.proofs.Common.{◌≡◌, ◌∙◌, ℕ, ◌+◌, ◌<◌, List, [], ◌∷◌, ◌++◌, length, take, get_or, refl, sym, ap, subst}
use Rattle.std.proofs.lemmas.List.{take_more}
use Rattle.ghes_ack.specs.declared.events.Side.{Side}
use Rattle.ghes_ack.specs.declared.events.Side.TheVariants.{Firmware}
use Rattle.erst_client.specs.Commands.{ClientState}
use Rattle.erst_machine.specs.MachineState.{MachineState}
use Rattle.erst_machine.specs.Shown.{changes_of}
use Rattle.erst_bridge.specs.Bridges.{BridgeState, asker_of}
use Rattle.erst_bridge.specs.Turns.{Turn, Step, bridged_machine, IsTurn, AreTurns}
use Rattle.erst_bridge.specs.declared.made.SideTurn.{SideTurn}
use Rattle.erst_bridge.specs.declared.made.SideTurn.TheVariants.{Firmware as ByFirmware, Bridge as ByBridge}
use Rattle.erst_bridge.specs.declared.made.MadeTurn.{MadeTurn}
use Rattle.erst_bridge.specs.Made.{turn_of, side_in, sides_in, made_by, AreCounted, MakesTurns}
use Rattle.erst_bridge.proofs.Terms.{told_turn}

pub told_again : (turn : SideTurn) → told_turn (turn_of turn) ≡ turn
told_again (ByFirmware event) = refl
told_again (ByBridge event) = refl

pub sides_more : (steps : List Step) (step : Step) → sides_in (steps ++ step ∷ []) ≡ sides_in steps ++ side_in step.turn ∷ []
sides_more [] step = refl
sides_more (first ∷ steps) step = ap (λ (xs : List Side). side_in first.turn ∷ xs) (sides_more steps step)

pub made_more : (steps : List Step) (step : Step) → made_by (steps ++ step ∷ []) ≡ made_by steps ++ (record { turn = told_turn step.turn; step = step.machine.device.store.flash.steps }) ∷ []
made_more [] step = refl
made_more (first ∷ steps) step = ap (λ (xs : List MadeTurn). (record { turn = told_turn first.turn; step = first.machine.device.store.flash.steps }) ∷ xs) (made_more steps step)

pub counted_more : (steps : List Step) (step : Step) → AreCounted steps → changes_of step.machine ≡ step.machine.device.store.flash.steps → AreCounted (steps ++ step ∷ [])
counted_more [] step are is = (is, tt)
counted_more (first ∷ steps) step are is = (are.0, counted_more steps step are.1 is)

module _ (tells : Type 0) (client : ClientState) (budget : ℕ) where
  pub turns_more : (bridge : BridgeState) (first : MachineState) (steps : List Step) (mid : BridgeState) (machine : MachineState) (turn : Turn) (next : BridgeState) (new : MachineState)
      → AreTurns tells client budget bridge first steps mid machine → IsTurn tells client budget mid machine turn next new
      → AreTurns tells client budget bridge first (steps ++ (record { turn = turn; bridge = next; machine = new }) ∷ []) next new
  turns_more bridge first [] mid machine turn next new are is =
      (subst (λ (b : BridgeState). IsTurn tells client budget b first turn next new) are.0 (subst (λ (m : MachineState). IsTurn tells client budget mid m turn next new) are.1 is), (refl, refl))
  turns_more bridge first (step ∷ steps) mid machine turn next new are is = (are.0, turns_more step.bridge step.machine steps mid machine turn next new are.1 is)

  pub none_made : (bridge : BridgeState) (first : MachineState) → MakesTurns tells (asker_of client budget) (bridged_machine bridge first) [] [] (bridged_machine bridge first)
  none_made bridge first = record { turns = []; are_turns = (refl, refl); sides_are = refl; made_is = refl; counted = λ _. tt }

  pub one_more : (bridge : BridgeState) (first : MachineState) (sides : List Side) (i : ℕ) (made made_now : List MadeTurn) (mid : BridgeState)
      (machine : MachineState) (turn : SideTurn) (step : ℕ) (next : BridgeState) (new : MachineState)
      → i < length sides → MakesTurns tells (asker_of client budget) (bridged_machine bridge first) (take i sides) made (bridged_machine mid machine)
      → IsTurn tells client budget mid machine (turn_of turn) next new → side_in (turn_of turn) ≡ get_or sides i Firmware
      → (tells → changes_of new ≡ step) → step ≡ new.device.store.flash.steps → made_now ≡ made ++ (record { turn = turn; step = step }) ∷ []
      → MakesTurns tells (asker_of client budget) (bridged_machine bridge first) (take (i + 1) sides) made_now (bridged_machine next new)
  one_more bridge first sides i made made_now mid machine turn step next new within so is side counted step_is pushed =
      let last : Step = record { turn = turn_of turn; bridge = next; machine = new } in
      record {
        turns = so.turns ++ last ∷ [];
        are_turns = turns_more bridge first so.turns mid machine (turn_of turn) next new so.are_turns is;
        sides_are = sides_more so.turns last ∙ ap (λ (xs : List Side). xs ++ side_in (turn_of turn) ∷ []) so.sides_are
            ∙ ap (λ (s : Side). take i sides ++ s ∷ []) side ∙ sym (take_more sides i Firmware within);
        made_is = pushed ∙ ap (λ (xs : List MadeTurn). xs ++ (record { turn = turn; step = step }) ∷ []) so.made_is
            ∙ ap (λ (n : ℕ). made_by so.turns ++ (record { turn = turn; step = n }) ∷ []) step_is
            ∙ ap (λ (t : SideTurn). made_by so.turns ++ (record { turn = t; step = new.device.store.flash.steps }) ∷ []) (sym (told_again turn))
            ∙ sym (made_more so.turns last);
        counted = λ told. counted_more so.turns last (so.counted told) (counted told ∙ step_is);
      }
