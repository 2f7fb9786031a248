-- Lines that were generated and played.
use Rattle.std.specs.Prelude.{◌≡◌, ℕ, Bool, List, [], codes, length, take, count_by, map}
use Rattle.std.specs.Str.{bytes_eq}
use Rattle.script_text.specs.ScriptGrammar.{Line, text_of}
use Rattle.apei_script.specs.Players.{PlayerState}
use Rattle.apei_script.specs.Words.{reply_at, text_of_replies}
use Rattle.apei_script.specs.Sessions.{CommandPlayed}
use Rattle.script_laws.specs.History.{Played, Follows, AreCounted, AreOwnLines, blocks_of}
use Rattle.apei_cli.specs.declared.generate.tally.Tally.{Tally}
use Rattle.apei_cli.specs.Commands.{generated_lines}
use Rattle.apei_script.specs.Bridged.{changes_in}

-- a text begins with a word
abbrev pub begins : List ℕ → List ℕ → Bool
begins word text = bytes_eq word (take (length word) text)

-- how many lines of each kind were played, and how many lines were refused
abbrev pub tally_of : List Played → Tally
tally_of lines = record {
  writes = count_by (λ (played : Played). begins (codes "write") (text_of played.line)) lines;
  clears = count_by (λ (played : Played). begins (codes "clear") (text_of played.line)) lines;
  reads = count_by (λ (played : Played). begins (codes "read") (text_of played.line)) lines;
  nexts = count_by (λ (played : Played). begins (codes "next") (text_of played.line)) lines;
  refused = count_by (λ (played : Played). begins (codes "refused") (text_of_replies played.said)) lines;
}

-- one line was played, and whether its reply is a refusal
pub record IsRefusedIf (refused : Bool) (tells : Type 0) (old : PlayerState) (line : Line) (new : PlayerState) : Type 0 where
  pub words : List ℕ
  pub played : CommandPlayed tells old line new words
  pub refused_is : refused ≡ begins (codes "refused") (reply_at (changes_in new.machine) words)

-- the lines that a seed generates were played, one after another
pub record PlaysCommands (tells : Type 0) (old : PlayerState) (seed count : ℕ) (new : PlayerState) (tally : Tally) : Type 0 where
  pub played : List Played
  pub lines : map (λ (one : Played). one.line) played ≡ generated_lines seed count
  pub history : (wants : List (ℕ → Bool)) (counts : List ℕ) → Follows tells wants counts old played new
  pub counted : tells → AreCounted played
  -- no line runs an action or gives a table, and no listener is told of a block
  pub own : AreOwnLines played
  pub blocks : blocks_of played ≡ []
  pub tallied : tally ≡ tally_of played
