-- A line of a script as a text, and what is written of it.
use Rattle.std.specs.Prelude.{◌≡◌, ℕ, List, [], ◌∷◌, ◌++◌, take, None, Ok}
use Rattle.hex.specs.Hex.{decode_of}
use Rattle.apei_notify.specs.Telling.{Hearing}
use Rattle.ghes_ack.specs.declared.events.Event.{Event}
use Rattle.ghes_ack.specs.declared.events.Event.TheVariants.{Took}
use Rattle.hest_sources.specs.Tables.{refusal}
use Rattle.ghes_hub.specs.Hubs.{HubState, Call}
use Rattle.hub_script.specs.HubGrammar.{Line, turns}
use Rattle.hub_script.specs.HubText.{IsWritten}
use Rattle.hub_script.specs.Replies.{text_of_replies, reply_line, words_of_turns}
use Rattle.script_lines.specs.Streams.{Stream}
use Rattle.hub_script.specs.Stages.{HubStage, Serving}
use Rattle.hub_script.specs.Plays.{Plays, AllNamed}
use Rattle.hub_script.specs.declared.hub_line.HubLine.{HubLine}
use Rattle.hub_script.specs.declared.hub_line.HubLine.TheVariants.{Hest}

-- a line was played, and its replies written
pub record PlaysLine {L : Type 0} (hearing : L → Hearing) (sink : Stream) (old : HubStage L) (line : Line) (new : HubStage L) : Type 0 where
  pub said : List (List ℕ)
  pub calls : List Call
  pub plays : Plays hearing old line said calls new
  pub text : sink.tells → sink.after ≡ sink.before ++ text_of_replies said

-- What is left of a line where the sink refused a reply: what was made of the line, the replies to that, those of them that were written whole,
-- and the one that was refused. It is the last one, or that of a block which a turn took; then no further turn is made. Turns are left only where
-- each of all their pairs names a source: with a pair that names none, no turn is made
pub data IsLeft {L : Type 0} : HubStage L → Line → Line → List (List ℕ) → List (List ℕ) → List ℕ → Type 0 where
  AtLast : {stage : HubStage L} {line : Line} (before : List (List ℕ)) (last : List ℕ) → IsLeft stage line line (before ++ last ∷ []) before last
  InBlock : {hub : HubState L} (pairs behind : List ℕ) (events : List Event) (before : List (List ℕ)) (last : List ℕ) → AllNamed hub (pairs ++ behind)
      → IsLeft (Serving hub) (turns (pairs ++ behind)) (turns pairs) (before ++ last ∷ words_of_turns (events ++ Took ∷ []) ∷ []) before last

-- a line was played, or what is left of it, and the sink refused a reply
pub record PlaysUnwritten {L : Type 0} (hearing : L → Hearing) (sink : Stream) (old : HubStage L) (line : Line) (new : HubStage L) : Type 0 where
  pub made : Line
  pub said : List (List ℕ)
  pub calls : List Call
  pub before : List (List ℕ)
  pub last : List ℕ
  pub left : IsLeft old line made said before last
  pub plays : Plays hearing old made said calls new
  pub text : sink.tells → (n : ℕ) × (sink.after ≡ sink.before ++ text_of_replies before ++ take n (reply_line last))

-- a text is a line of which this was made
pub record TextIs (text : List ℕ) (Made : Line → Type 0) : Type 0 where
  pub line : Line
  pub written : IsWritten text line
  pub made : Made line

-- digits stand for bytes that begin with a table of error sources
pub record BringsTable (hex : List ℕ) : Type 0 where
  pub bytes : List ℕ
  pub decoded : decode_of hex ≡ Ok bytes
  pub table : refusal bytes ≡ None

-- a line gives a table
abbrev pub IsTable : HubLine → Type 0
IsTable (Hest hex) = BringsTable hex.now
IsTable line = ⊥
