-- How many blocks the turns of a bridge took, stored and acknowledged.
use Rattle.std.specs.Prelude.{ℕ, ◌+◌, List, [], ◌∷◌}
use Rattle.ghes_ack.specs.declared.events.Event.TheVariants.{Took, Ack}
use Rattle.erst_bridge.specs.declared.events.BridgeEvent.TheVariants.{Line, Stored}
use Rattle.erst_bridge.specs.Bridges.{BridgeState, Holds, Releases}
use Rattle.erst_bridge.specs.Turns.{Turn, OfBridge, Step}

abbrev pub taken_by : Turn → ℕ
taken_by (OfBridge (Line Took)) = 1
taken_by turn = 0

abbrev pub stored_by : Turn → ℕ
stored_by (OfBridge (Stored id)) = 1
stored_by turn = 0

abbrev pub acknowledged_by : Turn → ℕ
acknowledged_by (OfBridge (Line Ack)) = 1
acknowledged_by turn = 0

abbrev pub sum_of : (Turn → ℕ) → List Step → ℕ
sum_of count [] = 0
sum_of count (step ∷ rest) = count step.turn + sum_of count rest

-- the blocks that are held, and those that are stored and still to be acknowledged
abbrev pub held_in : BridgeState → ℕ
held_in (Holds id block) = 1
held_in bridge = 0

abbrev pub released_in : BridgeState → ℕ
released_in (Releases id) = 1
released_in bridge = 0
