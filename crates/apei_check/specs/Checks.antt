-- What a check of a script leaves, by its end.
use Rattle.std.specs.Prelude.{◌≡◌, ℕ, List, ◌++◌, take}
use Rattle.script_text.specs.CheckGrammar.{CheckedLine, IsCheckLine, IsValidCheck, check_text_of}
use Rattle.std.specs.List.{flat_map}
use Rattle.script_lines.specs.Ends.{fault_of}
use Rattle.script_lines.specs.Lines.{Line}
use Rattle.script_lines.specs.Played.{EndsBehind, PlaysByFault}
use Rattle.script_lines.specs.Streams.{Stream}
use Rattle.apei_check.specs.declared.text.show.Show.{Show}
use Rattle.apei_check.specs.Shown.{lines_text}
use Rattle.apei_check.specs.Texts.{TextShows, TakesMemory}
use Rattle.script_lines.specs.declared.ending.ScriptEnd.{ScriptEnd}

-- Lines of a script were shown, each once and in order, and what was written is the text of what they show; where the sink failed, that of the lines
-- before the last, and a beginning of the text of the last. Memory is wanted for a text that gives a table alone
pub record ChecksScript (source sink : Stream) (show : Show) (ending : ScriptEnd) : Type 0 where
  pub lines : List Line
  pub ends : source.tells → EndsBehind IsCheckLine (λ text. (asked : CheckedLine) × (IsValidCheck asked × (text ≡ check_text_of asked)) × TakesMemory asked)
      source.before source.after lines ending
  pub shown : List (List (List ℕ))
  pub writes : PlaysByFault (TextShows show)
      (λ (first : List (List (List ℕ))) (text : List ℕ) (last : List (List ℕ)). TextShows show text last × (count : ℕ)
      × (sink.tells → sink.after ≡ sink.before ++ flat_map lines_text first ++ take count (lines_text last)))
      (λ (all : List (List (List ℕ))). sink.tells → sink.after ≡ sink.before ++ flat_map lines_text all) lines shown (fault_of ending)
