-- Laws of a script that is played so far, and of its ends.
use Rattle.std.proofs.Common.{◌≡◌, ℕ, ◌≤◌, ◌⊎◌, inl, inr, List, [], ◌∷◌, ◌++◌, length, take, refl, sym, ap, subst, ◌∙◌, arith, append_assoc}
use Rattle.std.proofs.lemmas.Bool.{cases_lt}
use Rattle.std.proofs.lemmas.List.{append-nil}
use Rattle.base_model.specs.Faults.{Rose}
use Rattle.script_lines.specs.Columns.{BreaksAt}
use Rattle.script_lines.specs.declared.lengths.TheConstants.{LONGEST_LINE}
use Rattle.apei_notify.specs.Telling.{Hearing}
use Rattle.script_lines.specs.Causes.{HasCauseOf, OfSource, OfSink}
use Rattle.script_lines.specs.Lines.{Line as TextLine, Reading, lines_of, IsTooLong, IsNextLine}
use Rattle.script_lines.specs.Played.{IsLineOf}
use Rattle.script_lines.specs.Reads.{HasRead, StandsAt, AreReadInOrder, last_line}
use Rattle.hub_script.specs.HubGrammar.{IsLine}
use Rattle.hub_script.specs.HubText.{IsWritten}
use Rattle.hub_script.specs.Replies.{text_of_replies, reply_line}
use Rattle.script_lines.specs.Streams.{stream_of}
use Rattle.hub_script.specs.Stages.{HubStage, Waiting, members_in}
use Rattle.hub_script.specs.Plays.{Plays}
use Rattle.hub_script.specs.Lines.{PlaysLine, PlaysUnwritten, TextIs}
use Rattle.hub_script.proofs.Terms.{GivesTable}
use Rattle.hub_script.specs.History.{Played, Follows}
use Rattle.hub_script.proofs.Terms.{text_of_played}
use Rattle.hub_script.specs.Scripts.{IsUnwritten, PlaysScript, ServesScript}
use Rattle.script_lines.specs.Ends.{EndsReading, fault_of}
use Rattle.script_lines.specs.declared.ending.ScriptEnd.{ScriptEnd}
use Rattle.script_lines.specs.declared.ending.ScriptEnd.TheVariants.{Done, BadLine, SinkFault, Memory}
use Rattle.script_lines.proofs.PlayedLemmas.{ArePlayed, IsBadFrom, ArePlayed-push, is_line, is_bad, stops_at, ends_behind, whole, not_memory, ends_none as lines_end, is_done as lines_done}
use Rattle.hub_script.proofs.ServedLemmas.{are_served}
use Rattle.std.specs.Prelude.{All}

-- a line within the lengths has no more bytes than are parsed
pub is_short : (text : List ℕ) (line : TextLine) → text ≡ line.text → (IsTooLong line → ⊥) → length text ≤ LONGEST_LINE
is_short text line is within = elim (cases_lt LONGEST_LINE (length line.text)) [ inl long ↦ absurd (within (inl long)) | inr short ↦ omega (arith, ap length is) ]

Follows-push : {L : Type 0} (hearing : L → Hearing) (first : HubStage L) (some : List (Played L)) (mid : HubStage L) (one : Played L) → Follows hearing first some mid
    → Plays hearing mid one.line one.said one.calls one.left → Follows hearing first (some ++ one ∷ []) one.left
Follows-push {L} hearing first [] mid one is plays = (subst (λ (stage : HubStage L). Plays hearing stage one.line one.said one.calls one.left) is plays, refl)
Follows-push hearing first (head ∷ some) mid one (plays, follows) line = (plays, Follows-push hearing head.left some mid one follows line)

text-push : {L : Type 0} (some : List (Played L)) (one : Played L) → text_of_played (some ++ one ∷ []) ≡ text_of_played some ++ text_of_replies one.said
text-push [] one = append-nil (text_of_replies one.said)
text-push (first ∷ some) one = ap (λ (bs : List ℕ). text_of_replies first.said ++ bs) (text-push some one)
    ∙ sym (append_assoc (text_of_replies first.said) (text_of_played some) (text_of_replies one.said))

module _ {L : Type 0} (hearing : L → Hearing) (told_source told_sink : Type 0) where
  -- a script so far: the lines that were read, all of them played
  pub record SoFar (old new : HubStage L) (script rest written written_now : List ℕ) (reading : Reading) : Type 0 where
    pub lines : List TextLine
    pub played : List (Played L)
    pub read : HasRead told_source script rest lines reading
    pub are : ArePlayed (λ (text : List ℕ) (one : Played L). IsWritten text one.line) lines played
    pub follows : Follows hearing old played new
    pub text : told_sink → written_now ≡ written ++ text_of_played played

  pub start : (stage : HubStage L) (script written : List ℕ) (reading : Reading) → HasRead told_source script script [] reading → SoFar stage stage script script written written reading
  start stage script written reading read = record { lines = []; played = []; read = read; are = tt; follows = refl; text = λ told. sym (append-nil written) }

  -- there is no next line
  pub ends_none : (order : AreReadInOrder told_source) (old new : HubStage L) (script rest rest_now written now : List ℕ) (a b : Reading) (ending : ScriptEnd)
      → SoFar old new script rest written now a → EndsReading told_source a b rest rest_now ending → PlaysScript hearing (stream_of told_source script rest_now)
      (stream_of told_sink written now) old new ending
  ends_none order old new script rest rest_now written now a b ending so_far end = record {
    lines = so_far.lines;
    ends = lines_end IsLine GivesTable told_source script rest rest_now so_far.lines a b ending order so_far.read end;
    played = so_far.played;
    follows = so_far.follows;
    are = whole (λ (text : List ℕ) (one : Played L). IsWritten text one.line) (IsUnwritten hearing (stream_of told_sink written now) old)
        (λ (all : List (Played L)). told_sink → now ≡ written ++ text_of_played all)
        told_source a b rest rest_now so_far.lines so_far.played ending end (so_far.are, so_far.text);
    waits = λ memory. absurd (not_memory told_source a b rest rest_now ending end memory);
  }

  -- the line that was read last
  module _ (old mid : HubStage L) (script rest rest_now written middle : List ℕ) (a b : Reading) (so_far : SoFar old mid script rest written middle a)
      (text : List ℕ) (next : IsNextLine told_source a b rest rest_now) (same : text ≡ b.line) where
    is_this : (Is : List ℕ → Type 0) → Is text → IsLineOf Is (last_line b)
    is_this Is is = is_line Is told_source a b rest rest_now text next same is

    -- it was played
    pub so_far_next : (new : HubStage L) (now : List ℕ) → HasRead told_source script rest_now (so_far.lines ++ last_line b ∷ []) b
        → TextIs text (λ line. PlaysLine hearing (stream_of told_sink middle now) mid line new) → SoFar old new script rest_now written now b
    so_far_next new now read plays =
        let one : Played L = record { line = plays.line; said = plays.made.said; calls = plays.made.calls; left = new } in
        record {
          lines = so_far.lines ++ last_line b ∷ [];
          played = so_far.played ++ one ∷ [];
          read = read;
          are = ArePlayed-push (λ (words : List ℕ) (each : Played L). IsWritten words each.line) so_far.lines (last_line b) so_far.played one so_far.are
              (is_this (λ (words : List ℕ). IsWritten words plays.line) plays.written);
          follows = Follows-push hearing old so_far.played mid one so_far.follows plays.made.plays;
          text = λ told. plays.made.text told ∙ ap (λ (bs : List ℕ). bs ++ text_of_replies one.said) (so_far.text told) ∙ append_assoc written (text_of_played so_far.played) (text_of_replies one.said)
              ∙ ap (λ (bs : List ℕ). written ++ bs) (sym (text-push so_far.played one));
        }

    -- the sink refused a reply of it
    pub ends_unwritten : (new : HubStage L) (now : List ℕ) → (told_source → StandsAt script so_far.lines b.number (last_line b))
        → TextIs text (λ line. PlaysUnwritten hearing (stream_of told_sink middle now) mid line new) →
        PlaysScript hearing (stream_of told_source script rest_now) (stream_of told_sink written now) old new SinkFault
    ends_unwritten new now stands plays =
        let made = plays.made in
        let one : Played L = record { line = made.made; said = made.said; calls = made.calls; left = new } in
        let unwritten : IsUnwritten hearing (stream_of told_sink written now) old so_far.played text one = record {
          line = plays.line;
          is = plays.written;
          behind = mid;
          follows = so_far.follows;
          before = made.before;
          unwritten = made.last;
          left = made.left;
          wrote = λ told. let part = made.text told in (part.0, part.1 ∙ ap (λ (bs : List ℕ). bs ++ text_of_replies made.before ++ take part.0 (reply_line made.last)) (so_far.text told));
        } in
        record {
          lines = so_far.lines ++ last_line b ∷ [];
          ends = λ told. ends_behind script so_far.lines (last_line b) b.number (stands told);
          played = so_far.played ++ one ∷ [];
          follows = Follows-push hearing old so_far.played mid one so_far.follows made.plays;
          are = record {
            before = so_far.lines;
            line = last_line b;
            lines_are = refl;
            first = so_far.played;
            last = one;
            played_is = refl;
            are = so_far.are;
            made = is_this (λ (words : List ℕ). IsUnwritten hearing (stream_of told_sink written now) old so_far.played words one) unwritten;
          };
          waits = λ e. absurd (cc e);
        }

    -- it is none
    pub ends_bad : (new : HubStage L) (now : List ℕ) (number column : ℕ) → new ≡ mid → now ≡ middle → number ≡ b.number →
        (told_source → StandsAt script so_far.lines b.number (last_line b)) → BreaksAt IsLine text column
        → PlaysScript hearing (stream_of told_source script rest_now) (stream_of told_sink written now) old new (BadLine number column)
    ends_bad new now number column stays kept is stands breaks = record {
      lines = so_far.lines;
      ends = λ told. stops_at (IsBadFrom IsLine column) script so_far.lines (last_line b) number b.number is (stands told) (is_bad IsLine told_source a b rest rest_now text column next same breaks);
      played = so_far.played;
      follows = subst (Follows hearing old so_far.played) (sym stays) so_far.follows;
      are = (so_far.are, λ told. kept ∙ so_far.text told);
      waits = λ e. absurd (cc e);
    }

    -- there was no memory for it
    pub ends_memory : (new : HubStage L) (now : List ℕ) → new ≡ mid → now ≡ middle → (told_source → StandsAt script so_far.lines b.number (last_line b)) →
        GivesTable text → (listeners : List L) × (mid ≡ Waiting listeners)
        → PlaysScript hearing (stream_of told_source script rest_now) (stream_of told_sink written now) old new Memory
    ends_memory new now stays kept stands table waits = record {
      lines = so_far.lines;
      ends = λ told. (b.number, stops_at (IsLineOf GivesTable) script so_far.lines (last_line b) b.number b.number refl (stands told) (is_this GivesTable table));
      played = so_far.played;
      follows = subst (Follows hearing old so_far.played) (sym stays) so_far.follows;
      are = (so_far.are, λ told. kept ∙ so_far.text told);
      waits = λ memory. (waits.0, stays ∙ waits.1);
    }

-- from listeners that wait on
pub serves_script : {L : Type 0} (hearing : L → Hearing) (told_source told_sink : Type 0) (old new : HubStage L) (script rest written now : List ℕ)
    (listeners listeners_now : List L) (ending : ScriptEnd)
    → PlaysScript hearing (stream_of told_source script rest) (stream_of told_sink written now) old new ending → old ≡ Waiting listeners → listeners_now ≡ members_in new
    → ServesScript hearing (stream_of told_source script rest) (stream_of told_sink written now) listeners listeners_now ending
serves_script {L} hearing told_source told_sink old new script rest written now listeners listeners_now ending plays begins back =
    let from : PlaysScript hearing (stream_of told_source script rest) (stream_of told_sink written now) (Waiting listeners) new ending =
    subst (λ (stage : HubStage L). PlaysScript hearing (stream_of told_source script rest) (stream_of told_sink written now) stage new ending) begins plays in
    record { last = new; plays = from; members = back; served = are_served hearing listeners from.played new from.follows }

-- where all lines are in the grammar and no fault was counted, all are read
pub is_done : {L : Type 0} (hearing : L → Hearing) (told_source told_sink : Type 0) (old new : HubStage L) (script rest written now : List ℕ) (source source_now sink sink_now : ℕ) (ending : ScriptEnd)
    → PlaysScript hearing (stream_of told_source script rest) (stream_of told_sink written now) old new ending → HasCauseOf OfSource source source_now
    (fault_of ending) → HasCauseOf OfSink sink sink_now (fault_of ending)
    → told_source → All (IsLineOf IsLine) (lines_of 0 script) → (Rose source source_now → ⊥) → (Rose sink sink_now → ⊥) → (ending ≡ Done) ⊎ (ending ≡ Memory)
is_done hearing told_source told_sink old new script rest written now source source_now sink sink_now ending plays in_cause out_cause told all no_source no_sink =
    lines_done IsLine GivesTable script rest plays.lines source source_now sink sink_now ending (plays.ends told) in_cause out_cause all no_source no_sink
