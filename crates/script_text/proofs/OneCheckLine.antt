-- Check lines with one text are one line.
use Rattle.std.proofs.Common.{◌≡◌, ℕ, ◌⊎◌, inl, inr, List, refl, sym, ◌∙◌, arith}
use Rattle.script_lines.proofs.OneLine.{IsReading, one_line}
use Rattle.script_text.specs.CheckGrammar.{CheckedLine, blank, comment, erst, hest, bert, one_record, block, IsValidCheck, check_text_of}
use Rattle.script_text.specs.CheckWords.{check_codes_of}
use Rattle.script_text.specs.declared.check_line.CheckWord.{CheckWord}
use Rattle.script_text.specs.declared.check_line.CheckWord.TheVariants.{Comment, Erst, Hest, Bert, Record, Block}
use Rattle.script_text.proofs.CheckLemmas.{all_check_words, alone}

-- the line of a keyword and what is behind it
abbrev line_behind : CheckWord → List ℕ → CheckedLine
line_behind Comment = comment
line_behind Erst = erst
line_behind Hest = hest
line_behind Bert = bert
line_behind Record = one_record
line_behind Block = block

-- how a line begins
abbrev IsReadAs : CheckWord → List ℕ → CheckedLine → Type 0
IsReadAs word rest line = line ≡ line_behind word rest

reading : (line : CheckedLine) → (line ≡ blank) ⊎ IsReading check_codes_of check_text_of IsReadAs line
reading blank = inl refl
reading (comment rest) = inr (record { word = Comment; rest = rest; is = refl; reads = refl })
reading (erst hex) = inr (record { word = Erst; rest = hex; is = refl; reads = refl })
reading (hest hex) = inr (record { word = Hest; rest = hex; is = refl; reads = refl })
reading (bert hex) = inr (record { word = Bert; rest = hex; is = refl; reads = refl })
reading (one_record hex) = inr (record { word = Record; rest = hex; is = refl; reads = refl })
reading (block hex) = inr (record { word = Block; rest = hex; is = refl; reads = refl })

pub one_check_line : (a b : CheckedLine) → IsValidCheck a → IsValidCheck b → check_text_of a ≡ check_text_of b → a ≡ b
one_check_line a b in_a in_b e =
    one_line check_codes_of all_check_words alone (omega arith) check_text_of blank refl IsReadAs (λ word rest a b x y. x ∙ sym y) a b (reading a) (reading b) e
