-- The line that sums up what was played.
use Rattle.std.specs.Prelude.{◌≡◌, ℕ, Bool, List, [], ◌∷◌, ◌++◌, codes, decimal, map, Result, Ok, Err}
use Rattle.std.specs.Result.{result_unwrap_or}
use Rattle.erst_client.specs.declared.errors.ClientError.{ClientError}
use Rattle.script_lines.specs.Streams.{Stream}
use Rattle.script_text.specs.ScriptGrammar.{count}
use Rattle.apei_script.specs.Players.{PlayerState}
use Rattle.apei_script.specs.Words.{said_at, words_of_count}
use Rattle.script_laws.specs.History.{Played, Follows, AreCounted, AreOwnLines, blocks_of}
use Rattle.apei_cli.specs.declared.generate.tally.Tally.{Tally}
use Rattle.apei_cli.specs.Commands.{generated_lines}
use Rattle.apei_cli.specs.Generated.{tally_of}
use Rattle.apei_cli.specs.Orders.{Batch}
use Rattle.apei_script.specs.Bridged.{changes_in}

-- the line
abbrev pub summary_of : ℕ → Tally → ℕ → ℕ → List ℕ
summary_of commands tally live step =
    codes "gen " ++ decimal commands ++ codes " writes " ++ decimal tally.writes ++ codes " clears " ++ decimal tally.clears ++ codes " reads " ++ decimal tally.reads
    ++ codes " nexts " ++ decimal tally.nexts ++ codes " refused " ++ decimal tally.refused ++ codes " live " ++ decimal live ++ codes " @" ++ decimal step ++ 10 ∷ []

-- a text was written, or where that was refused a beginning of it
abbrev pub WritesText : {E : Type 0} → List ℕ → List ℕ → List ℕ → Result (Unit {0}) E → Type 0
WritesText text written written_now (Ok done) = written_now ≡ written ++ text
WritesText text written written_now (Err error) = (part rest : List ℕ) × (text ≡ part ++ rest) × (written_now ≡ written ++ part)

-- The lines that a seed generates were played, one after another, and then one that counts the records, whatever the listeners have heard.
-- What was written sums them up: the lines of each kind and those that were refused, without the last one; the records that it counted, or none where it was refused; and
-- the flash step at which it ended
pub record IsGenerated {E : Type 0} (tells : Type 0) (sink : Stream) (old : PlayerState) (batch : Batch) (new : PlayerState) (result : Result (Unit {0}) E) : Type 0 where
  pub played : List Played
  pub last : Played
  pub lines : map (λ (one : Played). one.line) played ≡ generated_lines batch.seed batch.count
  pub asked : last.line ≡ count
  pub history : (wants : List (ℕ → Bool)) (counts : List ℕ) → Follows tells wants counts old (played ++ last ∷ []) new
  pub counted : tells → AreCounted (played ++ last ∷ [])
  -- no line runs an action or gives a table, and no listener is told of a block
  pub own : AreOwnLines (played ++ last ∷ [])
  pub blocks : blocks_of (played ++ last ∷ []) ≡ []
  pub answer : Result ℕ ClientError
  pub said : last.said ≡ said_at (changes_in new.machine) (words_of_count answer ∷ [])
  pub text : sink.tells
      → WritesText (summary_of batch.count (tally_of played) (result_unwrap_or answer 0) (changes_in new.machine)) sink.before sink.after result
