-- Why a turn of the bridge keeps its block.
use Rattle.std.specs.Prelude.{◌≡◌, ◌≤◌, List, [], ◌∷◌, Err}
use Rattle.base_model.specs.Faults.{Rose}
use Rattle.erst_client.specs.declared.errors.ClientError.TheVariants.{Hardware}
use Rattle.erst_client.specs.Timings.{enough_steps}
use Rattle.erst_commands.specs.Causes.{GoesThrough}
use Rattle.erst_bridge.specs.declared.events.BridgeEvent.TheVariants.{Kept}
use Rattle.erst_bridge.specs.Turns.{OfBridge}
use Rattle.apei_script.specs.Players.{PlayerState, budget_of}
use Rattle.apei_script.specs.Bridged.{EachTurn}
use Rattle.script_laws.specs.History.{Played}

-- each turn of these lines that keeps its block has its cause: for a failure of the flash only where its count of faults rose in this very turn;
-- and where its steps are enough, never for want of steps or of time
abbrev pub AllHaveCauses : PlayerState → List Played → Type 0
AllHaveCauses state [] = Unit {0}
AllHaveCauses state (played ∷ rest) =
    EachTurn (λ bridge old step. elim step.turn [
      | OfBridge (Kept error) ↦ (error ≡ Hardware → Rose old.device.store.flash.faults step.machine.device.store.flash.faults)
          × (enough_steps state.own.timings ≤ budget_of state → GoesThrough {T = Unit {0}} (Err error))
      | other ↦ Unit {0}
    ]) state.bridge state.machine played.steps × AllHaveCauses played.left rest
