-- What each status of a run says of its script.
use Rattle.std.specs.Prelude.{◌≡◌, ℕ, List, ◌++◌}
use Rattle.clap_words.specs.declared.error.WordsError.{WordsError}
use Rattle.clap_words.specs.declared.error.WordsError.TheVariants as words
use Rattle.erst_machine.specs.MachineState.{MachineState}
use Rattle.script_text.specs.ScriptGrammar.{Line as ScriptLine, IsLine}
use Rattle.script_text.specs.ScriptText.{Means}
use Rattle.apei_script.specs.Players.{PlayerState}
use Rattle.apei_script.specs.Words.{Reply}
use Rattle.apei_script.specs.Plays.{LeftIn, FailsRestart, BringsTable, PartlyWritten}
use Rattle.script_laws.specs.History.{Played, text_of}
use Rattle.script_lines.specs.declared.ending.ScriptEnd.{ScriptEnd}
use Rattle.script_lines.specs.declared.ending.ScriptEnd.TheVariants as ending
use Rattle.script_lines.specs.Causes.{Fault, OfSource, OfSink, NoFault}
use Rattle.script_lines.specs.Lines.{Line}
use Rattle.script_lines.specs.Streams.{Stream}
use Rattle.script_lines.specs.Played.{IsLineOf, StopsAt, EndsBehind, PlaysByFault}
use Rattle.apei_cli.specs.declared.status.Status.{Status}
use Rattle.apei_cli.specs.declared.status.Status.TheVariants.{Done, BadWords, BadLine, SourceFault, SinkFault, FlashFault, TooLong, Memory}

-- the status of a script that ended
abbrev pub status_of : ScriptEnd → Status
status_of ending.Done = Done
status_of (ending.BadLine line column) = BadLine line column
status_of ending.SourceFault = SourceFault
status_of ending.SinkFault = SinkFault
status_of (ending.TooLong line) = TooLong line
status_of ending.Memory = Memory

-- the status of words that are not taken
abbrev pub status_of_words : WordsError → Status
status_of_words words.BadWords = BadWords
status_of_words words.Memory = Memory

-- the fault of the script or of the output that a status tells of
abbrev pub fault_of : Status → Fault
fault_of SourceFault = OfSource
fault_of SinkFault = OfSink
fault_of status = NoFault

-- Which lines of the script were played once the machine was booted, by the status; `last` is the machine after them, and `final` the one that is
-- left. Behind them may stand a line in whose restart the flash failed; memory is taken for one line alone, that gives a table
abbrev pub EndsBy : Type 0 → List ℕ → List ℕ → List Line → MachineState → MachineState → Status → Type 0
EndsBy tells script rest lines last final FlashFault =
    (number : ℕ) × StopsAt (IsLineOf (λ text. (line : ScriptLine) × Means text line × FailsRestart tells last line final)) script lines number
EndsBy tells script rest lines last final status =
    (ended : ScriptEnd) × (status ≡ status_of ended)
    × EndsBehind IsLine (λ text. (line : ScriptLine) × Means text line × BringsTable line) script rest lines ended

-- nothing happens to the machine behind the last line, but a restart that the flash failed
abbrev pub LeavesLast : Type 0 → MachineState → MachineState → Status → Type 0
LeavesLast tells last final FlashFault = (line : ScriptLine) × FailsRestart tells last line final
LeavesLast tells last final status = final ≡ last

-- the sink refused a reply of the line that was played last, behind some that were played whole: what is left of it says which reply. What was
-- written are the replies to the lines before it, of its own those before that one, and a part of that
pub record IsUnwritten (sink : Stream) (first : List Played) (text : List ℕ) (last : Played) : Type 0 where
  pub line : ScriptLine
  pub means : Means text line
  pub before : List Reply
  pub unwritten : Reply
  pub left : LeftIn line last.line last.said before unwritten
  pub wrote : sink.tells → PartlyWritten before unwritten (sink.before ++ text_of first) sink.after

-- the lines of a script, from its start on, that were played, and what was written, by the status: the replies to all of them, but where the sink
-- failed, those to the last in part
pub record LinesOf (tells : Type 0) (source sink : Stream) (status : Status) (played : List Played) (last : PlayerState) (final : MachineState) : Type 0 where
  pub lines : List Line
  pub ends : source.tells → EndsBy tells source.before source.after lines last.machine final status
  pub are : PlaysByFault (λ (text : List ℕ) (one : Played). Means text one.line) (IsUnwritten sink)
      (λ (all : List Played). sink.tells → sink.after ≡ sink.before ++ text_of all) lines played (fault_of status)
