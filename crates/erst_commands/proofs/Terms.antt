-- What proofs alone name.
use Rattle.std.specs.Prelude.{◌≡◌, ℕ, List, length, replicate, map}
use Rattle.apei_space.specs.Calls.{Call}
use Rattle.erst_commands.specs.Equivalence.{asked, asked_event, answered_event}
use Rattle.apei_space.specs.Accesses.{Move}
use Rattle.erst_machine.specs.MachineState.{MachineState}
use Rattle.erst_machine.specs.Events.{Event}

-- two calls ask the same
abbrev pub AskAlike : Call → Call → Type 0
AskAlike one other = asked one ≡ asked other

-- a buffer of so many bytes, whatever they are
abbrev pub any_buffer : List ℕ → List ℕ
any_buffer buffer = replicate (length buffer) 0

-- moves as they are asked, and as they are answered
abbrev pub asked_by : List (Move Event MachineState) → List Event
asked_by moves = map (λ move. asked_event move.event) moves

abbrev pub answered_by : List (Move Event MachineState) → List Event
answered_by moves = map (λ move. answered_event move.event) moves
