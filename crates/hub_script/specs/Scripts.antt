-- What a script of several error sources leaves, by its end.
use Rattle.std.specs.Prelude.{◌≡◌, ℕ, List, ◌++◌, take}
use Rattle.std.specs.List.{flat_map}
use Rattle.apei_notify.specs.Telling.{Hearing}
use Rattle.script_lines.specs.Ends.{fault_of}
use Rattle.script_lines.specs.Lines.{Line as TextLine}
use Rattle.script_lines.specs.Played.{EndsBehind, PlaysByFault}
use Rattle.hub_script.specs.HubGrammar.{Line, IsLine, hest}
use Rattle.hub_script.specs.HubText.{IsWritten}
use Rattle.hub_script.specs.Replies.{text_of_replies, reply_line}
use Rattle.script_lines.specs.Streams.{Stream}
use Rattle.hub_script.specs.Stages.{HubStage, Waiting, members_in}
use Rattle.hub_script.specs.Lines.{IsLeft, BringsTable}
use Rattle.hub_script.specs.History.{Played, Follows, AreServed}
use Rattle.script_lines.specs.declared.ending.ScriptEnd.{ScriptEnd}
use Rattle.script_lines.specs.declared.ending.ScriptEnd.TheVariants.{Memory}

-- The sink refused a reply of the line that was played last, behind some that were played whole. What was written are the replies to the lines
-- before it, of its own those before that one, and a part of that
pub record IsUnwritten {L : Type 0} (hearing : L → Hearing) (sink : Stream) (old : HubStage L) (first : List (Played L)) (text : List ℕ)
    (last : Played L) : Type 0 where
  pub line : Line
  pub is : IsWritten text line
  pub behind : HubStage L
  pub follows : Follows hearing old first behind
  pub before : List (List ℕ)
  pub unwritten : List ℕ
  pub left : IsLeft behind line last.line last.said before unwritten
  pub wrote : sink.tells
      → (n : ℕ) × (sink.after ≡ (sink.before ++ flat_map (λ (played : Played L). text_of_replies played.said) first)
      ++ text_of_replies before ++ take n (reply_line unwritten))

-- Lines of a script were played from a stage on, and their replies written; but where the sink failed, the last in part. Memory is taken for one line
-- alone, that gives a table, and it was wanting only while no hub was open
pub record PlaysScript {L : Type 0} (hearing : L → Hearing) (source sink : Stream) (old new : HubStage L) (ending : ScriptEnd) : Type 0 where
  pub lines : List TextLine
  pub ends : source.tells → EndsBehind IsLine (λ text. (hex : List ℕ) × IsWritten text (hest hex) × BringsTable hex)
      source.before source.after lines ending
  pub played : List (Played L)
  pub follows : Follows hearing old played new
  pub are : PlaysByFault (λ (text : List ℕ) (one : Played L). IsWritten text one.line) (IsUnwritten hearing sink old)
      (λ (all : List (Played L)). sink.tells → sink.after ≡ sink.before ++ flat_map (λ (played : Played L). text_of_replies played.said) all)
      lines played (fault_of ending)
  pub waits : ending ≡ Memory → (listeners : List L) × (new ≡ Waiting listeners)

-- a script was played from its start on, and its listeners came back
pub record ServesScript {L : Type 0} (hearing : L → Hearing) (source sink : Stream) (listeners listeners_now : List L) (ending : ScriptEnd) : Type 0 where
  pub last : HubStage L
  pub plays : PlaysScript hearing source sink (Waiting listeners) last ending
  pub members : listeners_now ≡ members_in last
  pub served : AreServed hearing listeners (flat_map (λ (one : Played L). one.calls) plays.played) last
