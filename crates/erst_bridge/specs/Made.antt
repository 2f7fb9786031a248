-- What turns of both sides did, with the flash changes behind each.
use Rattle.std.specs.Prelude.{◌≡◌, List, [], ◌∷◌}
use Rattle.ghes_ack.specs.declared.events.Side.{Side}
use Rattle.ghes_ack.specs.declared.events.Side.TheVariants.{Firmware, Reader}
use Rattle.erst_machine.specs.Shown.{changes_of}
use Rattle.erst_bridge.specs.Bridges.{Asker}
use Rattle.erst_bridge.specs.Turns.{Turn, OfFirmware, OfBridge, Step, BridgedMachine, AreTurns}
use Rattle.erst_bridge.specs.declared.made.SideTurn.{SideTurn}
use Rattle.erst_bridge.specs.declared.made.SideTurn.TheVariants.{Firmware as ByFirmware, Bridge as ByBridge}
use Rattle.erst_bridge.specs.declared.made.MadeTurn.{MadeTurn}

abbrev pub turn_of : SideTurn → Turn
turn_of (ByFirmware event) = OfFirmware event
turn_of (ByBridge event) = OfBridge event

-- the side whose turn it was: a bridge makes the reader's
abbrev pub side_in : Turn → Side
side_in (OfFirmware event) = Firmware
side_in (OfBridge event) = Reader

abbrev pub sides_in : List Step → List Side
sides_in [] = []
sides_in (step ∷ rest) = side_in step.turn ∷ sides_in rest

-- each turn with the flash changes that were made when it ended
abbrev pub made_by : List Step → List MadeTurn
made_by [] = []
made_by (step ∷ rest) =
    (record {
      turn = elim step.turn [ OfFirmware event ↦ ByFirmware event | OfBridge event ↦ ByBridge event ];
      step = step.machine.device.store.flash.steps;
    }) ∷ made_by rest

-- which are those that the flash tells
abbrev pub AreCounted : List Step → Type 0
AreCounted [] = Unit {0}
AreCounted (step ∷ rest) = (changes_of step.machine ≡ step.machine.device.store.flash.steps) × AreCounted rest

-- turns of these sides, one after another, with what is told of them
pub record MakesTurns (tells : Type 0) (asker : Asker) (old : BridgedMachine) (sides : List Side) (made : List MadeTurn) (new : BridgedMachine) : Type 0 where
  pub turns : List Step
  pub are_turns : AreTurns tells asker.client asker.steps old.bridge old.machine turns new.bridge new.machine
  pub sides_are : sides_in turns ≡ sides
  pub made_is : made ≡ made_by turns
  pub counted : tells → AreCounted turns
