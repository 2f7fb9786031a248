-- What a sentence tells of a body: numbers, each by the row of a standard's table that shows it.
use Rattle.std.specs.Prelude.{ℕ, ◌/◌, ◌%◌, Bool, true, false, if◌then◌else◌, List, [], ◌∷◌, ◌++◌, Option, Some, None, codes, decimal}
use Rattle.std.specs.Fmt.{digits}
use Rattle.apei_bytes.specs.Guid.{digit}
use Rattle.field_lines.specs.Layouts.{Structure}
use Rattle.field_lines.specs.Names.{is_flag}
use Rattle.field_lines.specs.Told.{number_told}
use Rattle.show_findings.specs.declared.phrases.Manner.{Manner}
use Rattle.show_findings.specs.declared.phrases.Manner.TheVariants.{Tens, Sixteens, Two, Four, Flags}
use Rattle.show_findings.specs.declared.phrases.Phrase.{Phrase as PhraseOfCode}
use Rattle.show_findings.specs.declared.phrases.Brackets.{Brackets}

-- the row that shows a number, by its name, the words before the number, and how it is told
pub record Phrase : Type 0 where
  pub row : List ℕ
  pub words : List ℕ
  pub manner : Manner

abbrev pub phrase : (row words : List ℕ) → Manner → Phrase
phrase row words manner = record { row = row; words = words; manner = manner }

abbrev pub phrase_of : PhraseOfCode → Phrase
phrase_of coded = phrase coded.row.now coded.words.now coded.manner

-- digits of sixteen, as many as are said
abbrev pub two_digits : ℕ → List ℕ
two_digits number = digit (number / 16 % 16) ∷ digit (number % 16) ∷ []

abbrev pub four_digits : ℕ → List ℕ
four_digits number = two_digits (number / 256) ++ two_digits number

-- the names of the bits of a number that are set, each behind words
abbrev pub flag_phrases : (words : List ℕ) → List (ℕ × List ℕ) → ℕ → List ℕ
flag_phrases words [] number = []
flag_phrases words (name ∷ names) number = (if is_flag number name.0 then words ++ name.1 else []) ++ flag_phrases words names number

abbrev pub number_words : (words : List ℕ) → Manner → (number : ℕ) → List (ℕ × List ℕ) → List ℕ
number_words words Tens number names = words ++ decimal number
number_words words Sixteens number names = words ++ digits 16 false number
number_words words Two number names = words ++ two_digits number
number_words words Four number names = words ++ four_digits number
number_words words Flags number names = flag_phrases words names number

abbrev pub words_if_told : (words : List ℕ) → Manner → Option (ℕ × List (ℕ × List ℕ)) → List ℕ
words_if_told words manner None = []
words_if_told words manner (Some named) = number_words words manner named.0 named.1

abbrev pub phrase_text : Structure → (body : List ℕ) → Phrase → List ℕ
phrase_text structure body one = words_if_told one.words one.manner (number_told structure one.row body)

-- one behind another
abbrev pub phrases_text : Structure → (body : List ℕ) → List Phrase → List ℕ
phrases_text structure body [] = []
phrases_text structure body (one ∷ phrases) = phrase_text structure body one ++ phrases_text structure body phrases

-- the parts of a place stand behind a mark, with a space between them, and another mark behind the last one
pub record Marks : Type 0 where
  pub start : List ℕ
  pub end : List ℕ

abbrev pub marks_of : Brackets → Marks
marks_of brackets = record { start = brackets.start.now; end = brackets.end.now }

abbrev pub is_told : Option (ℕ × List (ℕ × List ℕ)) → Bool
is_told None = false
is_told (Some named) = true

abbrev pub place_text : Marks → (begun : Bool) → Structure → (body : List ℕ) → List Phrase → List ℕ
place_text marks begun structure body [] = if begun then marks.end else []
place_text marks begun structure body (one ∷ phrases) =
    if is_told (number_told structure one.row body)
    then (if begun then codes " " else marks.start) ++ phrase_text structure body one ++ place_text marks true structure body phrases
    else place_text marks begun structure body phrases
