-- Laws of a check of a script so far, and of its ends.
use Rattle.std.proofs.Common.{◌≡◌, ℕ, ◌⊎◌, List, [], ◌∷◌, ◌++◌, take, refl, sym, ap, ◌∙◌, append_assoc}
use Rattle.std.specs.List.{flat_map}
use Rattle.std.proofs.lemmas.List.{append-nil}
use Rattle.base_model.specs.Faults.{Rose}
use Rattle.script_lines.specs.Columns.{BreaksAt}
use Rattle.script_text.specs.CheckGrammar.{CheckedLine, IsCheckLine, IsValidCheck, check_text_of}
use Rattle.script_text.specs.CheckText.{IsCheckText, checked_line_of}
use Rattle.script_text.specs.declared.check_line.CheckLine.{CheckLine}
use Rattle.script_lines.specs.Lines.{Line, Reading, lines_of, IsNextLine}
use Rattle.script_lines.specs.Causes.{HasCauseOf, OfSource, OfSink}
use Rattle.script_lines.specs.Played.{IsLineOf}
use Rattle.script_lines.specs.Streams.{stream_of}
use Rattle.script_lines.specs.Reads.{HasRead, StandsAt, AreReadInOrder, last_line}
use Rattle.script_lines.specs.Ends.{EndsReading, fault_of}
use Rattle.script_lines.specs.declared.ending.ScriptEnd.{ScriptEnd}
use Rattle.apei_check.specs.Shown.{Shows, ShowsPart, lines_text}
use Rattle.apei_check.specs.declared.text.show.Show.{Show}
use Rattle.apei_check.specs.Texts.{AreShownBy, TakesMemory, TextShows}
use Rattle.apei_check.specs.Checks.{ChecksScript}
use Rattle.script_lines.specs.declared.ending.ScriptEnd.TheVariants.{Done, BadLine, SinkFault, Memory}
use Rattle.script_lines.proofs.PlayedLemmas.{IsBadFrom, ArePlayed, ArePlayed-push, whole, is_line, is_bad, stops_at, ends_behind, ends_none as lines_end, is_done as lines_done}
use Rattle.apei_check.proofs.TextLemmas.{text-push}
use Rattle.apei_check.proofs.GrammarLemmas.{is_read}
use Rattle.std.specs.Prelude.{All}

-- a text gives a table for which memory is taken
abbrev MayWantMemory : List ℕ → Type 0
MayWantMemory text = (asked : CheckedLine) × (IsValidCheck asked × (text ≡ check_text_of asked)) × TakesMemory asked

-- a beginning of what a text shows was written behind what some lines show
abbrev ShowsInPart : Type 0 → Show → List ℕ → List ℕ → List (List (List ℕ)) → List ℕ → List (List ℕ) → Type 0
ShowsInPart told show written now first text last = TextShows show text last × (count : ℕ) × (told → now ≡ written ++ flat_map lines_text first ++ take count (lines_text last))

-- the lines that were read, and what was written of them
pub record SoFar (told_source told_sink : Type 0) (show : Show) (script rest written written_now : List ℕ) (reading : Reading) : Type 0 where
  pub lines : List Line
  pub shown : List (List (List ℕ))
  pub read : HasRead told_source script rest lines reading
  pub are : ArePlayed (TextShows show) lines shown
  pub text : told_sink → written_now ≡ written ++ flat_map lines_text shown

pub so_far_none : (told_source told_sink : Type 0) (show : Show) (script written : List ℕ) (reading : Reading) → HasRead told_source script script [] reading
    → SoFar told_source told_sink show script script written written reading
so_far_none told_source told_sink show script written reading read = record { lines = []; shown = []; read = read; are = tt; text = λ told. sym (append-nil written) }

module _ (told_source told_sink : Type 0) (show : Show) (script rest rest_now written middle : List ℕ) (a b : Reading) (so_far : SoFar told_source told_sink show script rest written middle a)
    (text : List ℕ) (line : CheckLine) (next : IsNextLine told_source a b rest rest_now) (same : text ≡ b.line) (is : IsCheckText text line) where
  -- what the line that was read shows
  text_shows : (shown : List (List ℕ)) → AreShownBy show (checked_line_of line) shown → TextShows show text shown
  text_shows shown are = let read = is_read text line is in (read.asked, read.written, read.same show shown are)

  -- one more line was shown
  pub so_far_next : (now : List ℕ) → HasRead told_source script rest_now (so_far.lines ++ last_line b ∷ []) b → Shows told_sink (AreShownBy show (checked_line_of line)) middle now
      → SoFar told_source told_sink show script rest_now written now b
  so_far_next now reads shows = record {
    lines = so_far.lines ++ last_line b ∷ [];
    shown = so_far.shown ++ shows.lines ∷ [];
    read = reads;
    are =
        ArePlayed-push (TextShows show) so_far.lines (last_line b) so_far.shown shows.lines so_far.are
        (is_line (λ (t : List ℕ). TextShows show t shows.lines) told_source a b rest rest_now text next same (text_shows shows.lines shows.are));
    text = λ told.
        shows.text told ∙ ap (λ (bs : List ℕ). bs ++ lines_text shows.lines) (so_far.text told)
        ∙ append_assoc written (flat_map lines_text so_far.shown) (lines_text shows.lines)
        ∙ ap (λ (bs : List ℕ). written ++ bs) (sym (text-push so_far.shown shows.lines));
  }

  -- it was shown in part
  pub ends_unwritten : (now : List ℕ) → (told_source → StandsAt script so_far.lines b.number (last_line b)) → ShowsPart told_sink (AreShownBy show (checked_line_of line)) middle now
      → ChecksScript (stream_of told_source script rest_now) (stream_of told_sink written now) show SinkFault
  ends_unwritten now stands shows =
      let made : ShowsInPart told_sink show written now so_far.shown text shows.lines = (
        text_shows shows.lines shows.are,
        shows.count,
        λ told. shows.text told ∙ ap (λ (bs : List ℕ). bs ++ take shows.count (lines_text shows.lines)) (so_far.text told),
      ) in
      record {
        lines = so_far.lines ++ last_line b ∷ [];
        ends = λ told. ends_behind script so_far.lines (last_line b) b.number (stands told);
        shown = so_far.shown ++ shows.lines ∷ [];
        writes = record {
          before = so_far.lines;
          line = last_line b;
          lines_are = refl;
          first = so_far.shown;
          last = shows.lines;
          played_is = refl;
          are = so_far.are;
          made = is_line (λ (t : List ℕ). ShowsInPart told_sink show written now so_far.shown t shows.lines) told_source a b rest rest_now text next same made;
        };
      }

  -- there was no memory for it
  pub ends_memory : (now : List ℕ) → (told_source → StandsAt script so_far.lines b.number (last_line b)) → TakesMemory (checked_line_of line) → now ≡ middle
      → ChecksScript (stream_of told_source script rest_now) (stream_of told_sink written now) show Memory
  ends_memory now stands takes left =
      let read = is_read text line is in
      let wants : MayWantMemory text = (read.asked, read.written, read.takes takes) in
      record {
        lines = so_far.lines;
        ends = λ told. (
          b.number,
          stops_at (IsLineOf MayWantMemory) script so_far.lines (last_line b) b.number b.number refl (stands told)
              (is_line MayWantMemory told_source a b rest rest_now text next same wants),
        );
        shown = so_far.shown;
        writes = (so_far.are, λ told. left ∙ so_far.text told);
      }

-- there is no next line
pub ends_none : (told_source told_sink : Type 0) (order : AreReadInOrder told_source) (show : Show) (script rest rest_now written now : List ℕ) (a b : Reading) (ending : ScriptEnd)
    → SoFar told_source told_sink show script rest written now a → EndsReading told_source a b rest rest_now ending →
    ChecksScript (stream_of told_source script rest_now) (stream_of told_sink written now) show ending
ends_none told_source told_sink order show script rest rest_now written now a b ending so_far end = record {
  lines = so_far.lines;
  ends = lines_end IsCheckLine MayWantMemory told_source script rest rest_now so_far.lines a b ending order so_far.read end;
  shown = so_far.shown;
  writes = whole (TextShows show) (ShowsInPart told_sink show written now) (λ (all : List (List (List ℕ))). told_sink → now ≡ written ++ flat_map lines_text
      all) told_source a b rest rest_now so_far.lines so_far.shown
      ending end (so_far.are, so_far.text);
}

-- the line that was read is none
pub ends_bad : (told_source told_sink : Type 0) (show : Show) (script rest rest_now written now text : List ℕ) (a b : Reading) (number column : ℕ) →
    (so_far : SoFar told_source told_sink show script rest written now a)
    → IsNextLine told_source a b rest rest_now → (told_source → StandsAt script so_far.lines b.number (last_line b)) → number ≡ b.number → text ≡ b.line → BreaksAt IsCheckLine text column
    → ChecksScript (stream_of told_source script rest_now) (stream_of told_sink written now) show (BadLine number column)
ends_bad told_source told_sink show script rest rest_now written now text a b number column so_far next stands numbered same breaks = record {
  lines = so_far.lines;
  ends = λ told. stops_at (IsBadFrom IsCheckLine column) script so_far.lines (last_line b) number b.number numbered (stands told)
      (is_bad IsCheckLine told_source a b rest rest_now text column next same breaks);
  shown = so_far.shown;
  writes = (so_far.are, so_far.text);
}

-- where all lines are in the grammar and no fault was counted, all are read
pub is_done : (told_source told_sink : Type 0) (show : Show) (script rest written now : List ℕ) (source source_now sink sink_now : ℕ) (ending : ScriptEnd)
    → ChecksScript (stream_of told_source script rest) (stream_of told_sink written now) show ending → HasCauseOf OfSource source source_now (fault_of ending) →
    HasCauseOf OfSink sink sink_now (fault_of ending)
    → told_source → All (IsLineOf IsCheckLine) (lines_of 0 script) → (Rose source source_now → ⊥) → (Rose sink sink_now → ⊥) → (ending ≡ Done) ⊎ (ending ≡ Memory)
is_done told_source told_sink show script rest written now source source_now sink sink_now ending checks in_cause out_cause told all no_source no_sink =
    lines_done IsCheckLine MayWantMemory script rest checks.lines source source_now sink sink_now ending (checks.ends told) in_cause out_cause all no_source no_sink
