-- Laws of an end at which no line is read.
use Rattle.std.proofs.Common.{◌≡◌, ℕ, List, subst}
use Rattle.script_lines.specs.Causes.{HasCauseOf, OfSource, OfSink, Fault}
use Rattle.script_lines.specs.Lines.{Reading}
use Rattle.script_lines.specs.Ends.{EndsReading, fault_of}
use Rattle.script_lines.specs.declared.ending.ScriptEnd.{ScriptEnd}
use Rattle.script_lines.specs.declared.ending.ScriptEnd.TheVariants.{Done, BadLine, SourceFault, SinkFault, TooLong, Memory}

-- the fault of the source that it tells of, counted from an earlier reading on in which none was
pub source_cause : (before middle after : ℕ) (fault : Fault) → middle ≡ before → HasCauseOf OfSource middle after fault → HasCauseOf OfSource before after fault
source_cause before middle after fault same cause = subst (λ (n : ℕ). HasCauseOf OfSource n after fault) same cause

-- it tells of none of the sink
pub no_sink : (tells : Type 0) (old new : Reading) (rest rest_now : List ℕ) (ending : ScriptEnd) (before after : ℕ) → EndsReading tells old new rest rest_now ending
    → after ≡ before → HasCauseOf OfSink before after (fault_of ending)
no_sink tells old new rest rest_now Done before after ends same = same
no_sink tells old new rest rest_now (BadLine line column) before after ends same = absurd ends
no_sink tells old new rest rest_now SourceFault before after ends same = same
no_sink tells old new rest rest_now SinkFault before after ends same = absurd ends
no_sink tells old new rest rest_now (TooLong line) before after ends same = same
no_sink tells old new rest rest_now Memory before after ends same = absurd ends
