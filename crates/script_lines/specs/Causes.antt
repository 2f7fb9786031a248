-- When an answer over a script that is read, and of which something is written, may tell of a fault.
use Rattle.std.specs.Prelude.{◌≡◌, ℕ}
use Rattle.base_model.specs.Faults.{Rose}

-- what an answer tells of: that a read of the script failed, that a write failed, or neither
pub data Fault : Type 0 where
  OfSource : Fault
  OfSink : Fault
  NoFault : Fault

-- what is counted of the source, or of the sink: its count rose where a fault of it is told, and every other answer leaves the count
abbrev pub HasCauseOf : Fault → ℕ → ℕ → Fault → Type 0
HasCauseOf OfSource before after OfSource = Rose before after
HasCauseOf OfSink before after OfSink = Rose before after
HasCauseOf counted before after fault = after ≡ before
