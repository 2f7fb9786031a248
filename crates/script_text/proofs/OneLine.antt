-- Lines with one text are one line.
use Rattle.std.proofs.Common.{◌≡◌, ℕ, ◌⊎◌, inl, inr, List, refl, sym, ◌∙◌, arith}
use Rattle.script_lines.proofs.OneLine.{IsReading as IsReadingOf, one_line as one_line_of}
use Rattle.script_text.specs.ScriptGrammar.{Line, IsValid, text_of, blank}
use Rattle.script_text.specs.ScriptText.{codes_of, Follows}
use Rattle.script_text.specs.declared.script_line.ScriptWord.{ScriptWord}
use Rattle.script_text.proofs.ScriptLemmas.{all_words, alone, meant, same_meant, IsReading, reading}

-- the line that a keyword and what follows it mean
abbrev IsReadAs : ScriptWord → List ℕ → Line → Type 0
IsReadAs word rest line = (follows : Follows word rest) × (line ≡ meant word rest follows)

same_read : (word : ScriptWord) (rest : List ℕ) (a b : Line) → IsReadAs word rest a → IsReadAs word rest b → a ≡ b
same_read word rest a b x y = x.1 ∙ same_meant word rest x.0 y.0 ∙ sym y.1

as_read : (line : Line) → (line ≡ blank) ⊎ IsReading line → (line ≡ blank) ⊎ IsReadingOf codes_of text_of IsReadAs line
as_read line (inl is) = inl is
as_read line (inr reads) = inr (record { word = reads.word; rest = reads.rest; is = reads.is; reads = (reads.follows, reads.line_is) })

pub one_line : (a b : Line) → IsValid a → IsValid b → text_of a ≡ text_of b → a ≡ b
one_line a b in_a in_b e =
    one_line_of codes_of all_words alone (omega arith) text_of blank refl IsReadAs same_read a b (as_read a (reading a in_a)) (as_read b (reading b in_b)) e
