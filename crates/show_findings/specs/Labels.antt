-- The label of a part: the text by which its maker knows it.
use Rattle.std.specs.Prelude.{ℕ, ◌==◌, Bool, true, false, if◌then◌else◌, List, [], ◌∷◌, ◌++◌, codes}
use Rattle.field_lines.specs.Texts.{shown_byte}
use Rattle.show_findings.specs.declared.labels.Gap.{Gap}
use Rattle.show_findings.specs.declared.labels.Gap.TheVariants.{Start, Blank, Nothing}

-- what stands before the next letter: a comma before the first one, and one space in place of blanks inside
abbrev pub gap_text : Gap → List ℕ
gap_text Start = codes ", "
gap_text Blank = codes " "
gap_text Nothing = []

abbrev pub behind_blank : Gap → Gap
behind_blank Start = Start
behind_blank Blank = Blank
behind_blank Nothing = Blank

-- the letters before the first zero, without the blanks around them
abbrev pub label_text : Gap → List ℕ → List ℕ
label_text gap [] = []
label_text gap (byte ∷ bytes) =
    if byte == 0 then []
    else if byte == 32 then label_text (behind_blank gap) bytes
    else gap_text gap ++ shown_byte byte ∷ label_text Nothing bytes

-- whether it has a letter
abbrev pub has_label : List ℕ → Bool
has_label [] = false
has_label (byte ∷ bytes) = if byte == 0 then false else if byte == 32 then has_label bytes else true
