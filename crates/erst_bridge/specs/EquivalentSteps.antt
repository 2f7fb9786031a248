-- Turns of a bridge over two machines that are equivalent.
use Rattle.std.specs.Prelude.{◌≡◌, List, map}
use Rattle.erst_bridge.specs.Bridges.{BridgeState}
use Rattle.erst_bridge.specs.Turns.{Turn, Step}
use Rattle.erst_commands.specs.Equivalence.{MachineOutline, machine_outline}

-- what is seen of a turn wherever the records stand: what it did, the bridge, and the outline of the machine that it left
pub record StepOutline : Type 0 where
  pub turn : Turn
  pub bridge : BridgeState
  pub machine : MachineOutline

abbrev pub step_outline : Step → StepOutline
step_outline step = record { turn = step.turn; bridge = step.bridge; machine = machine_outline step.machine }

-- turns one after another are equivalent: they have the same outlines
abbrev pub EquivalentSteps : List Step → List Step → Type 0
EquivalentSteps ones others = map step_outline ones ≡ map step_outline others
