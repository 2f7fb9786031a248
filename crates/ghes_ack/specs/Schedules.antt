-- Whole schedules: lists of submissions and turns from a start.
use Rattle.std.specs.Prelude.{◌≡◌, ℕ, ◌+◌, ◌-◌, ◌*◌, ◌≤◌, min, List, [], ◌∷◌, ◌++◌, length, take, replicate}
use Rattle.base_model.specs.Bytes.{part}
use Rattle.apei_space.specs.RamState.{RamState}
use Rattle.ghes_ack.specs.declared.events.Side.{Side}
use Rattle.ghes_ack.specs.declared.events.Event.{Event}
use Rattle.ghes_ack.specs.declared.events.Event.TheVariants.{Idle, Fill, Publish, Free, Wait, Nothing, Found, Copied, Took, Clear, Ack}
use Rattle.ghes_ack.specs.Machine.{Machine, Situation, Filling, Published, Reading, Cleared, Acknowledged, Fits, at_work, turned, started, submitted}
use Rattle.ghes_ack.specs.Elsewhere.{SameInMap}
use Rattle.ghes_ack.specs.Handovers.{HandoverState, WithMemory, StandsFor, IsTurned, AreTurned}

-- what may happen to the machine
pub data Step : Type 0 where
  Submit : List ℕ → Step
  Turn : Side → Step

-- the machine, and what the reader has: the bytes that it copied since it found the block, and the blocks that it took. Both
-- come from the window as it stands at each copy, and not from what was submitted
pub record Watched : Type 0 where
  pub machine : Machine
  pub copied : List ℕ
  pub taken : List (List ℕ)

-- the piece of the window that a copy copies now
abbrev pub next_piece : Machine → List ℕ
next_piece m = part m.window (64 * m.copied) (min 64 (length (at_work m) - 64 * m.copied))

abbrev pub watched : Watched → Event → Machine → Watched
watched w Found m = record { machine = m; copied = []; taken = w.taken }
watched w Copied m = record { machine = m; copied = w.copied ++ next_piece w.machine; taken = w.taken }
watched w Took m = record { machine = m; copied = []; taken = w.taken ++ (w.copied ++ next_piece w.machine) ∷ [] }
watched w Idle m = record w { machine = m }
watched w Fill m = record w { machine = m }
watched w Publish m = record w { machine = m }
watched w Free m = record w { machine = m }
watched w Wait m = record w { machine = m }
watched w Nothing m = record w { machine = m }
watched w Clear m = record w { machine = m }
watched w Ack m = record w { machine = m }

abbrev pub after : Watched → Step → Watched
after w (Submit block) = record w { machine = submitted w.machine block }
after w (Turn side) = watched w (turned side w.machine).0 (turned side w.machine).1

abbrev pub run : Watched → List Step → Watched
run w [] = w
run w (step ∷ steps) = run (after w step) steps

abbrev pub from_start : List ℕ → Watched
from_start window = record { machine = started window; copied = []; taken = [] }

-- the events of the turns among some steps
abbrev pub events_of : Watched → List Step → List Event
events_of w [] = []
events_of w (Submit block ∷ steps) = events_of (after w (Submit block)) steps
events_of w (Turn side ∷ steps) = (turned side w.machine).0 ∷ events_of (after w (Turn side)) steps

abbrev pub AreFitting : ℕ → List Step → Type 0
AreFitting len [] = Unit {0}
AreFitting len (Submit block ∷ steps) = Fits len block × AreFitting len steps
AreFitting len (Turn side ∷ steps) = AreFitting len steps

-- the blocks that a list of steps submits
abbrev pub submissions : List Step → List (List ℕ)
submissions [] = []
submissions (Submit block ∷ steps) = block ∷ submissions steps
submissions (Turn side ∷ steps) = submissions steps

-- acknowledged, taken, published: each at most one behind the other
pub record AreInOrder (m : Machine) : Type 0 where
  pub acknowledged : m.acknowledged ≤ m.taken
  pub taken : m.taken ≤ m.published
  pub published : m.published ≤ m.acknowledged + 1
  pub submitted : m.published ≤ length m.blocks

-- from publish to acknowledge
abbrev pub IsHeld : Situation → Type 0
IsHeld Filling = ⊥
IsHeld Published = Unit {0}
IsHeld Reading = Unit {0}
IsHeld Cleared = Unit {0}
IsHeld Acknowledged = ⊥

-- calls of a handover with their answers, and what others write to the same memory between them
pub data Call : Type 0 where
  Submits : List ℕ → Call
  Turns : Side → Event → Call
  ManyTurns : Side → List Event → Call
  OthersWrite : Call

-- what each call is said to do
abbrev pub Does : Call → WithMemory HandoverState → WithMemory HandoverState → Type 0
Does (Submits block) old new =
    (new.memory ≡ old.memory) × ((ram : RamState) (m : Machine) → StandsFor old.state ram m → StandsFor new.state ram (submitted m block))
Does (Turns side event) old new = (m : Machine) → StandsFor old.state old.memory m → IsTurned side event new.state new.memory m
Does (ManyTurns side events) old new = (m : Machine) → StandsFor old.state old.memory m → AreTurned side (length events) events new.state new.memory m
Does OthersWrite old new = (new.state ≡ old.state) × SameInMap old.state.map old.memory new.memory

abbrev pub DoAll : List Call → WithMemory HandoverState → WithMemory HandoverState → Type 0
DoAll [] first last = last ≡ first
DoAll (call ∷ calls) first last = (between : WithMemory HandoverState) × Does call first between × DoAll calls between last

-- their submissions and turns, and the events of the turns
abbrev pub steps_of : List Call → List Step
steps_of [] = []
steps_of (Submits block ∷ calls) = Submit block ∷ steps_of calls
steps_of (Turns side event ∷ calls) = Turn side ∷ steps_of calls
steps_of (ManyTurns side events ∷ calls) = replicate (length events) (Turn side) ++ steps_of calls
steps_of (OthersWrite ∷ calls) = steps_of calls

abbrev pub answers_of : List Call → List Event
answers_of [] = []
answers_of (Submits block ∷ calls) = answers_of calls
answers_of (Turns side event ∷ calls) = event ∷ answers_of calls
answers_of (ManyTurns side events ∷ calls) = events ++ answers_of calls
answers_of (OthersWrite ∷ calls) = answers_of calls

-- after some calls from a start: the handover stands for the machine that made the same steps, it answered the machine's
-- events, and what the reader copied out of the window are the first blocks of those submitted, as many as were taken, whole,
-- each once, in order
pub record HandsOver (window : List ℕ) (calls : List Call) (last : WithMemory HandoverState) : Type 0 where
  pub stands : StandsFor last.state last.memory (run (from_start window) (steps_of calls)).machine
  pub events : answers_of calls ≡ events_of (from_start window) (steps_of calls)
  pub submitted : (run (from_start window) (steps_of calls)).machine.blocks ≡ submissions (steps_of calls)
  pub taken : (run (from_start window) (steps_of calls)).taken ≡ take (run (from_start window) (steps_of calls)).machine.taken (submissions (steps_of calls))
  pub order : AreInOrder (run (from_start window) (steps_of calls)).machine
