-- The keywords of the lines that are checked, and what may follow each.
use Rattle.std.specs.Prelude.{ℕ, List, [], ◌∷◌, codes}
use Rattle.script_lines.specs.Parts.{IsPairs}
use Rattle.script_text.specs.declared.check_line.CheckWord.{CheckWord}
use Rattle.script_text.specs.declared.check_line.CheckWord.TheVariants.{Comment, Erst, Hest, Bert, Record, Block}

-- a keyword, with the space behind it where something follows, and what may follow
abbrev pub check_form_of : CheckWord → List ℕ × (List ℕ → Type 0)
check_form_of Comment = (codes "#", λ text. Unit {0})
check_form_of Erst = (codes "erst ", IsPairs)
check_form_of Hest = (codes "hest ", IsPairs)
check_form_of Bert = (codes "bert ", IsPairs)
check_form_of Record = (codes "record ", IsPairs)
check_form_of Block = (codes "block ", IsPairs)

abbrev pub check_codes_of : CheckWord → List ℕ
check_codes_of word = (check_form_of word).0

abbrev pub CheckFollows : CheckWord → List ℕ → Type 0
CheckFollows word = (check_form_of word).1
