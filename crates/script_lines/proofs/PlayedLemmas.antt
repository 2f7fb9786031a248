-- Laws of lines that were played one after another, and of the end of their script.
use Rattle.std.proofs.Common.{◌≡◌, ℕ, ◌⊎◌, inl, inr, List, [], ◌∷◌, ◌++◌, refl, sym, subst, ◌∙◌, append_assoc, ◌+◌, ◌<◌, length, arith}
use Rattle.std.proofs.Math.Seq.{get_or-append_seam}
use Rattle.std.specs.List.{AllZip}
use Rattle.base_model.specs.Faults.{Rose}
use Rattle.script_lines.specs.Columns.{BreaksAt}
use Rattle.script_lines.specs.Causes.{HasCauseOf, OfSource, OfSink}
use Rattle.script_lines.specs.Ends.{EndsReading, fault_of}
use Rattle.script_lines.specs.Lines.{Line, Reading, lines_of, IsTooLong, IsNextLine}
use Rattle.script_lines.specs.Reads.{HasRead, StandsAt, AreReadInOrder, last_line}
use Rattle.script_lines.specs.Played.{IsLineOf, StopsAt, EndsBehind, PlaysByFault}
use Rattle.script_lines.specs.declared.ending.ScriptEnd.{ScriptEnd}
use Rattle.script_lines.specs.declared.ending.ScriptEnd.TheVariants.{Done, BadLine, SourceFault, SinkFault, TooLong, Memory}
use Rattle.std.specs.Prelude.{All}

-- the lines were played, each as what its text is read as
abbrev pub ArePlayed : {P : Type 0} → (List ℕ → P → Type 0) → List Line → List P → Type 0
ArePlayed Reads lines played = AllZip (λ line one. IsLineOf (λ text. Reads text one) line) lines played

-- a line is none of a grammar, from this column on
abbrev pub IsBadFrom : (List ℕ → Type 0) → ℕ → Line → Type 0
IsBadFrom Is column = IsLineOf (λ text. BreaksAt Is text column)

-- one more line
pub ArePlayed-push : {P : Type 0} (Reads : List ℕ → P → Type 0) (lines : List Line) (line : Line) (some : List P) (one : P) → ArePlayed Reads lines some
    → IsLineOf (λ text. Reads text one) line → ArePlayed Reads (lines ++ line ∷ []) (some ++ one ∷ [])
ArePlayed-push Reads [] line [] one are is = (is, tt)
ArePlayed-push Reads [] line (first ∷ some) one are is = absurd are
ArePlayed-push Reads (first ∷ lines) line [] one are is = absurd are
ArePlayed-push Reads (first ∷ lines) line (head ∷ some) one are is = (are.0, ArePlayed-push Reads lines line some one are.1 is)

-- what was read of the line's text is so of the line
pub is_line : (Is : List ℕ → Type 0) (tells : Type 0) (a b : Reading) (rest rest_now text : List ℕ) → IsNextLine tells a b rest rest_now → text ≡ b.line → Is text → IsLineOf Is (last_line b)
is_line Is tells a b rest rest_now text next same is = record { within = next.within; is = subst Is same is }

pub is_bad : (Is : List ℕ → Type 0) (tells : Type 0) (a b : Reading) (rest rest_now text : List ℕ) (column : ℕ) → IsNextLine tells a b rest rest_now → text ≡ b.line → BreaksAt Is text column
    → IsBadFrom Is column (last_line b)
is_bad Is tells a b rest rest_now text column next same breaks = record { within = next.within; is = subst (λ (t : List ℕ). BreaksAt Is t column) same breaks }

-- it stopped the script
pub stops_at : (Is : Line → Type 0) (script : List ℕ) (before : List Line) (line : Line) (number at : ℕ) → number ≡ at → StandsAt script before at line → Is line → StopsAt Is script before number
stops_at Is script before line number at numbered stands is = record { line = line; stands = subst (λ (n : ℕ). StandsAt script before n line) (sym numbered) stands; is = is }

-- the last of the lines was read
pub ends_behind : (script : List ℕ) (before : List Line) (line : Line) (number : ℕ) → StandsAt script before number line → (behind : List Line) × (lines_of 0 script ≡ (before ++ line ∷ []) ++ behind)
ends_behind script before line number stands = (stands.behind, stands.lines ∙ sym (append_assoc before (line ∷ []) stands.behind))

-- there is no next line
pub ends_none : (Is WantsMemory : List ℕ → Type 0) (tells : Type 0) (script rest rest_now : List ℕ) (lines : List Line) (a b : Reading) (ending : ScriptEnd) → AreReadInOrder tells
    → HasRead tells script rest lines a → EndsReading tells a b rest rest_now ending → tells → EndsBehind Is WantsMemory script rest_now lines ending
ends_none Is WantsMemory tells script rest rest_now lines a b Done order read end told = order.at_end script rest rest_now lines a b read end told
ends_none Is WantsMemory tells script rest rest_now lines a b (BadLine number column) order read end told = absurd end
ends_none Is WantsMemory tells script rest rest_now lines a b SourceFault order read end told = order.failed script rest rest_now lines a b read end told
ends_none Is WantsMemory tells script rest rest_now lines a b SinkFault order read end told = absurd end
ends_none Is WantsMemory tells script rest rest_now lines a b (TooLong number) order read (numbered, long) told =
    let at = order.too_long script rest lines a b read long told in
    stops_at IsTooLong script lines at.0 number (b.number + 1) numbered at.1 at.2
ends_none Is WantsMemory tells script rest rest_now lines a b Memory order read end told = absurd end

-- then the lines that were read were played whole, and memory was not wanted
pub whole : {P : Type 0} (Reads : List ℕ → P → Type 0) (Made : List P → List ℕ → P → Type 0) (Written : List P → Type 0) (tells : Type 0) (a b : Reading)
    (rest rest_now : List ℕ) (lines : List Line) (played : List P)
    (ending : ScriptEnd) → EndsReading tells a b rest rest_now ending → ArePlayed Reads lines played × Written played → PlaysByFault Reads Made Written lines played (fault_of ending)
whole Reads Made Written tells a b rest rest_now lines played Done end are = are
whole Reads Made Written tells a b rest rest_now lines played (BadLine number column) end are = absurd end
whole Reads Made Written tells a b rest rest_now lines played SourceFault end are = are
whole Reads Made Written tells a b rest rest_now lines played SinkFault end are = absurd end
whole Reads Made Written tells a b rest rest_now lines played (TooLong number) end are = are
whole Reads Made Written tells a b rest rest_now lines played Memory end are = absurd end

pub not_memory : (tells : Type 0) (a b : Reading) (rest rest_now : List ℕ) (ending : ScriptEnd) → EndsReading tells a b rest rest_now ending → ending ≡ Memory → ⊥
not_memory tells a b rest rest_now Done end is = cc is
not_memory tells a b rest rest_now (BadLine number column) end is = end
not_memory tells a b rest rest_now SourceFault end is = cc is
not_memory tells a b rest rest_now SinkFault end is = end
not_memory tells a b rest rest_now (TooLong number) end is = cc is
not_memory tells a b rest rest_now Memory end is = end

seam : (before : List Line) (line : Line) (behind : List Line) → length before < length (before ++ line ∷ behind)
seam [] line behind = omega arith
seam (first ∷ before) line behind = let below = seam before line behind in omega arith

-- a line among those of a grammar
in_grammar_at : (Is : List ℕ → Type 0) (before : List Line) (line : Line) (behind : List Line) → (All (IsLineOf Is) (before ++ line ∷ behind)) → IsLineOf Is line
in_grammar_at Is before line behind all =
    subst (IsLineOf Is) (get_or-append_seam before line behind line) (all (length before) line (seam before line behind))

stopped_in_grammar : (Is : List ℕ → Type 0) (IsThere : Line → Type 0) (script : List ℕ) (before : List Line) (number : ℕ) →
    All (IsLineOf Is) (lines_of 0 script) → (stops : StopsAt IsThere script before number)
    → IsLineOf Is stops.line
stopped_in_grammar Is IsThere script before number all stops = in_grammar_at Is before stops.line stops.stands.behind (subst (All (IsLineOf Is)) stops.stands.lines all)

-- no line that is none stops a script whose lines are all of the grammar, and none that is too long
pub not_bad : (Is : List ℕ → Type 0) (script : List ℕ) (lines : List Line) (number column : ℕ) → All (IsLineOf Is) (lines_of 0 script) → StopsAt (IsBadFrom Is column) script lines number → ⊥
not_bad Is script lines number column all stops = stops.is.is.1.outside (stopped_in_grammar Is (IsBadFrom Is column) script lines number all stops).is

pub not_long : (Is : List ℕ → Type 0) (script : List ℕ) (lines : List Line) (number : ℕ) → All (IsLineOf Is) (lines_of 0 script) → StopsAt IsTooLong script lines number → ⊥
not_long Is script lines number all stops = (stopped_in_grammar Is IsTooLong script lines number all stops).within stops.is

-- where no fault was counted, it is read to its end, or there was no memory
pub is_done : (Is WantsMemory : List ℕ → Type 0) (script rest : List ℕ) (lines : List Line) (source source_now sink sink_now : ℕ) (ending : ScriptEnd) →
    EndsBehind Is WantsMemory script rest lines ending
    → HasCauseOf OfSource source source_now (fault_of ending) → HasCauseOf OfSink sink sink_now (fault_of ending) → All (IsLineOf Is) (lines_of 0 script)
    → (Rose source source_now → ⊥) → (Rose sink sink_now → ⊥) → (ending ≡ Done) ⊎ (ending ≡ Memory)
is_done Is WantsMemory script rest lines source source_now sink sink_now Done ends in_cause out_cause all no_source no_sink = inl refl
is_done Is WantsMemory script rest lines source source_now sink sink_now (BadLine number column) ends in_cause out_cause all no_source no_sink = absurd (not_bad Is script lines number column all ends)
is_done Is WantsMemory script rest lines source source_now sink sink_now SourceFault ends in_cause out_cause all no_source no_sink = absurd (no_source in_cause)
is_done Is WantsMemory script rest lines source source_now sink sink_now SinkFault ends in_cause out_cause all no_source no_sink = absurd (no_sink out_cause)
is_done Is WantsMemory script rest lines source source_now sink sink_now (TooLong number) ends in_cause out_cause all no_source no_sink = absurd (not_long Is script lines number all ends)
is_done Is WantsMemory script rest lines source source_now sink sink_now Memory ends in_cause out_cause all no_source no_sink = inr refl
