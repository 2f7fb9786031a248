-- How a script that is read line by line ends.
use Rattle.std.specs.Prelude.{◌≡◌, ℕ, ◌+◌, List}
use Rattle.script_lines.specs.Causes.{Fault, OfSource, OfSink, NoFault}
use Rattle.script_lines.specs.Lines.{Reading, IsAtEnd, NextIsTooLong, HasNoLine}
use Rattle.script_lines.specs.declared.ending.ScriptEnd.{ScriptEnd}
use Rattle.script_lines.specs.declared.ending.ScriptEnd.TheVariants.{Done, SourceFault, SinkFault, TooLong}

-- the fault that an end tells of
abbrev pub fault_of : ScriptEnd → Fault
fault_of SourceFault = OfSource
fault_of SinkFault = OfSink
fault_of ending = NoFault

-- why there is no next line
abbrev pub EndsReading : Type 0 → Reading → Reading → List ℕ → List ℕ → ScriptEnd → Type 0
EndsReading tells old new rest rest_now Done = IsAtEnd tells old new rest rest_now
EndsReading tells old new rest rest_now SourceFault = HasNoLine tells old new rest rest_now
EndsReading tells old new rest rest_now (TooLong line) = (line ≡ new.number + 1) × NextIsTooLong tells old new rest
EndsReading tells old new rest rest_now ending = ⊥
