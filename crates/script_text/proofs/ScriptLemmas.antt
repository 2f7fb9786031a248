-- The lines of a script are a language of keywords.
use Rattle.std.proofs.Common.{◌≡◌, ℕ, ◌^◌, ◌<◌, ◌⊎◌, inl, inr, true, false, List, [], ◌∷◌, ◌++◌, refl, sym, ap, subst, ◌∙◌, arith}
use Rattle.std.specs.Prelude.{IsTrue, ◌==◌, ◌||◌, decimal, codes}
use Rattle.std.specs.Char.{is_ascii_hexdigit}
use Rattle.std.proofs.lemmas.Fmt.{decimal_injective}
use Rattle.std.proofs.lemmas.List.{append_assoc}
use Rattle.std.proofs.lemmas.List.Elements.{All-cons, All-nil, All-head}
use Rattle.script_text.specs.Turns.{IsTurns}
use Rattle.script_text.specs.ScriptGrammar.{Line, IsLine, IsValid, text_of, blank, comment, write, read, clear, count, next, dummy, action, table, own_table}
use Rattle.script_text.specs.ScriptGrammar.{shadow_table, error, turns, peek, fatal, bert, heard, reset, power, bridge}
use Rattle.script_lines.specs.Columns.{Begins}
use Rattle.script_lines.specs.Parts.{IsPairs, IsNumber, AreTwoNumbers}
use Rattle.script_text.specs.ScriptText.{codes_of, Follows, IsText, Means, AsWritten, AsComment, line_of}
use Rattle.script_text.specs.declared.script_line.ScriptLine.{ScriptLine}
use Rattle.script_text.specs.declared.script_line.ScriptLine.TheVariants as parsed
use Rattle.script_text.specs.declared.script_line.ScriptWord.{ScriptWord}
use Rattle.script_text.specs.declared.script_line.ScriptWord.TheVariants.{Comment, Write, Read, Clear, Count, Next, Dummy, Action, Table, Error, Turns, Peek, Fatal, Bert, Heard, Reset, Power, Bridge}
use Rattle.script_lines.proofs.KeywordLemmas.{IsLanguage, one_of_all, language}
use Rattle.script_lines.proofs.PairLemmas.{one_pair}
use Rattle.script_lines.proofs.BehindLemmas.{IsBehind, IsOne, IsAlone}
use Rattle.script_lines.proofs.OneLine.{same_then}

-- all keywords
abbrev pub all_words : List ScriptWord
all_words = Comment ∷ Write ∷ Read ∷ Clear ∷ Count ∷ Next ∷ Dummy ∷ Action ∷ Table ∷ Error ∷ Turns ∷ Peek ∷ Fatal ∷ Bert ∷ Heard ∷ Reset ∷ Power ∷ Bridge ∷ []

-- no keyword begins another
pub alone : (word : ScriptWord) → IsAlone codes_of all_words word
alone Comment = refl
alone word = refl

-- the line of a keyword and what follows it
abbrev pub meant : (word : ScriptWord) (rest : List ℕ) → Follows word rest → Line
meant Comment rest follows = comment rest
meant Write rest follows = write rest
meant Read rest follows = read follows.0
meant Clear rest follows = clear follows.0
meant Count rest follows = count
meant Next rest follows = next
meant Dummy rest follows = dummy
meant Action rest follows = action follows.0 follows.3.0
meant Table rest (inl pairs) = table rest
meant Table rest (inr (inl e)) = own_table
meant Table rest (inr (inr e)) = shadow_table
meant Error rest follows = error rest
meant Turns rest follows = turns rest
meant Peek rest follows = peek follows.0 follows.3.0
meant Fatal rest follows = fatal rest
meant Bert rest follows = bert
meant Heard rest follows = heard
meant Reset rest follows = reset
meant Power rest follows = power
meant Bridge rest follows = bridge follows.0

-- it is one, and written so
record IsMeant (word : ScriptWord) (rest : List ℕ) (line : Line) : Type 0 where
  valid : IsValid line
  is : codes_of word ++ rest ≡ text_of line

two_assoc : (a b c : List ℕ) → a ++ (b ++ 32 ∷ c) ≡ a ++ b ++ codes " " ++ c
two_assoc a b c = sym (append_assoc a b (32 ∷ c)) ∙ sym (append_assoc (a ++ b) (32 ∷ []) c)

is_meant : (word : ScriptWord) (rest : List ℕ) (follows : Follows word rest) → IsMeant word rest (meant word rest follows)
is_meant Comment rest follows = record { valid = tt; is = refl }
is_meant Write rest follows = record { valid = follows; is = refl }
is_meant Read rest follows = record { valid = let h = follows.2 in omega arith; is = ap (λ (x : List ℕ). codes "read " ++ x) follows.3 }
is_meant Clear rest follows = record { valid = let h = follows.2 in omega arith; is = ap (λ (x : List ℕ). codes "clear " ++ x) follows.3 }
is_meant Action rest (m, u, most_m, (n, least_n, most_n, is), e) = record {
  valid = (omega arith, omega arith);
  is = ap (λ (x : List ℕ). codes "action " ++ x) (e ∙ ap (λ (x : List ℕ). decimal m ++ 32 ∷ x) is) ∙ two_assoc (codes "action ") (decimal m) (decimal n);
}
is_meant Table rest (inl pairs) = record { valid = pairs; is = refl }
is_meant Table rest (inr (inl e)) = record { valid = tt; is = ap (λ (x : List ℕ). codes "table " ++ x) e }
is_meant Table rest (inr (inr e)) = record { valid = tt; is = ap (λ (x : List ℕ). codes "table " ++ x) e }
is_meant Error rest follows = record { valid = follows; is = refl }
is_meant Turns rest follows = record { valid = follows; is = refl }
is_meant Peek rest (m, u, most_m, (n, least_n, most_n, is), e) = record {
  valid = (omega arith, omega arith, omega arith);
  is = ap (λ (x : List ℕ). codes "peek " ++ x) (e ∙ ap (λ (x : List ℕ). decimal m ++ 32 ∷ x) is) ∙ two_assoc (codes "peek ") (decimal m) (decimal n);
}
is_meant Fatal rest follows = record { valid = follows; is = refl }
is_meant Bridge rest follows = record { valid = let h = follows.2 in omega arith; is = ap (λ (x : List ℕ). codes "bridge " ++ x) follows.3 }
is_meant word rest follows = record { valid = tt; is = ap (λ (x : List ℕ). codes_of word ++ x) follows }

-- and the only one

no_own : IsPairs (codes "own") → ⊥
no_own is = let h : false ≡ true = All-head (λ c. IsTrue (is_ascii_hexdigit c)) 111 (codes "wn") is.digits in cc h

no_shadow : IsPairs (codes "shadow") → ⊥
no_shadow is = let h : false ≡ true = All-head (λ c. IsTrue (is_ascii_hexdigit c)) 115 (codes "hadow") is.digits in cc h

own_or_shadow : (rest : List ℕ) → rest ≡ codes "own" → rest ≡ codes "shadow" → ⊥
own_or_shadow rest e e' = let h : codes "own" ≡ codes "shadow" = sym e ∙ e' in cc h

same_number : (make : ℕ → Line) (rest : List ℕ) (f g : IsNumber 0 0xFFFF_FFFF_FFFF_FFFF rest) → make f.0 ≡ make g.0
same_number make rest (m, least, most, is) (n, least', most', is') = ap make (decimal_injective m n (omega arith) (omega arith) (sym is ∙ is'))

same_pair : (make : ℕ → ℕ → Line) (first least last : ℕ) (rest : List ℕ) → first < 2 ^ 64 → last < 2 ^ 64 → (f g : AreTwoNumbers first least last rest) → make f.0 f.3.0 ≡ make g.0 g.3.0
same_pair make first least last rest few less (m, u, most_m, (n, least_n, most_n, is), e) (m', u', most_m', (n', least_n', most_n', is'), e') =
    let parts = same_then m m' (decimal n) (decimal n') (omega arith) (omega arith) (sym (e ∙ ap (λ (x : List ℕ). decimal m ++ 32 ∷ x) is) ∙ e' ∙ ap (λ (x : List ℕ). decimal m' ++ 32 ∷ x) is') in
    ap (λ (k : ℕ). make k n) parts.0 ∙ ap (make m') (decimal_injective n n' (omega arith) (omega arith) parts.1)

pub same_meant : (word : ScriptWord) (rest : List ℕ) (f g : Follows word rest) → meant word rest f ≡ meant word rest g
same_meant Read rest f g = same_number read rest f g
same_meant Clear rest f g = same_number clear rest f g
same_meant Bridge rest f g = same_number bridge rest f g
same_meant Action rest f g = same_pair action 255 0 0xFFFF_FFFF_FFFF_FFFF rest (omega arith) (omega arith) f g
same_meant Peek rest f g = same_pair peek 0xFFFF_FFFF_FFFF_FFFF 1 4096 rest (omega arith) (omega arith) f g
same_meant Table rest (inl x) (inl y) = refl
same_meant Table rest (inl x) (inr (inl y)) = absurd (no_own (subst IsPairs y x))
same_meant Table rest (inl x) (inr (inr y)) = absurd (no_shadow (subst IsPairs y x))
same_meant Table rest (inr (inl x)) (inl y) = absurd (no_own (subst IsPairs x y))
same_meant Table rest (inr (inl x)) (inr (inl y)) = refl
same_meant Table rest (inr (inl x)) (inr (inr y)) = absurd (own_or_shadow rest x y)
same_meant Table rest (inr (inr x)) (inl y) = absurd (no_shadow (subst IsPairs x y))
same_meant Table rest (inr (inr x)) (inr (inl y)) = absurd (own_or_shadow rest y x)
same_meant Table rest (inr (inr x)) (inr (inr y)) = refl
same_meant word rest f g = refl

-- how a line begins
pub record IsReading (line : Line) : Type 0 where
  pub word : ScriptWord
  pub rest : List ℕ
  pub follows : Follows word rest
  pub is : text_of line ≡ codes_of word ++ rest
  pub line_is : line ≡ meant word rest follows

pub reading : (line : Line) → IsValid line → (line ≡ blank) ⊎ IsReading line
reading blank valid = inl refl
reading (comment rest) valid = inr (record { word = Comment; rest = rest; follows = tt; is = refl; line_is = refl })
reading (write hex) valid = inr (record { word = Write; rest = hex; follows = valid; is = refl; line_is = refl })
reading (read n) valid = inr (record { word = Read; rest = decimal n; follows = (n, omega arith, omega arith, refl); is = refl; line_is = refl })
reading (clear n) valid = inr (record { word = Clear; rest = decimal n; follows = (n, omega arith, omega arith, refl); is = refl; line_is = refl })
reading count valid = inr (record { word = Count; rest = []; follows = refl; is = refl; line_is = refl })
reading next valid = inr (record { word = Next; rest = []; follows = refl; is = refl; line_is = refl })
reading dummy valid = inr (record { word = Dummy; rest = []; follows = refl; is = refl; line_is = refl })
reading (action m n) valid = inr (record {
  word = Action;
  rest = decimal m ++ 32 ∷ decimal n;
  follows = (m, decimal n, (let h = valid.0 in omega arith), (n, omega arith, (let h = valid.1 in omega arith), refl), refl);
  is = sym (two_assoc (codes "action ") (decimal m) (decimal n));
  line_is = refl;
})
reading (table hex) valid = inr (record { word = Table; rest = hex; follows = inl valid; is = refl; line_is = refl })
reading own_table valid = inr (record { word = Table; rest = codes "own"; follows = inr (inl refl); is = refl; line_is = refl })
reading shadow_table valid = inr (record { word = Table; rest = codes "shadow"; follows = inr (inr refl); is = refl; line_is = refl })
reading (error hex) valid = inr (record { word = Error; rest = hex; follows = valid; is = refl; line_is = refl })
reading (turns letters) valid = inr (record { word = Turns; rest = letters; follows = valid; is = refl; line_is = refl })
reading (peek m n) valid = inr (record {
  word = Peek;
  rest = decimal m ++ 32 ∷ decimal n;
  follows = (m, decimal n, (let h = valid.0 in omega arith), (n, valid.1, valid.2, refl), refl);
  is = sym (two_assoc (codes "peek ") (decimal m) (decimal n));
  line_is = refl;
})
reading (fatal hex) valid = inr (record { word = Fatal; rest = hex; follows = valid; is = refl; line_is = refl })
reading bert valid = inr (record { word = Bert; rest = []; follows = refl; is = refl; line_is = refl })
reading heard valid = inr (record { word = Heard; rest = []; follows = refl; is = refl; line_is = refl })
reading reset valid = inr (record { word = Reset; rest = []; follows = refl; is = refl; line_is = refl })
reading power valid = inr (record { word = Power; rest = []; follows = refl; is = refl; line_is = refl })
reading (bridge n) valid = inr (record { word = Bridge; rest = decimal n; follows = (n, omega arith, omega arith, refl); is = refl; line_is = refl })

-- a keyword with what may follow it is one of all
one_of : (word : ScriptWord) (text : List ℕ) → IsBehind codes_of Follows word text → IsOne codes_of Follows all_words text
one_of = one_of_all codes_of Follows all_words alone

line_behind : (word : ScriptWord) (rest : List ℕ) → Follows word rest → IsLine (codes_of word ++ rest)
line_behind word rest follows = let so = is_meant word rest follows in (meant word rest follows, so.valid, so.is)

line_is : (line : Line) → IsValid line → (text : List ℕ) → text ≡ text_of line → (text ≡ []) ⊎ IsOne codes_of Follows all_words text
line_is line valid text e = choose (reading line valid)
  where
    choose : (line ≡ blank) ⊎ IsReading line → (text ≡ []) ⊎ IsOne codes_of Follows all_words text
    choose (inl empty) = inl (e ∙ ap text_of empty)
    choose (inr reads) = inr (one_of reads.word text (record { rest = reads.rest; is = e ∙ reads.is; follows = reads.follows }))

letter : IsTurns (codes "F")
letter = record {
  letters = All-cons (λ c. IsTrue (c == 70 || c == 82)) 70 [] refl (All-nil (λ c. IsTrue (c == 70 || c == 82)));
  least = omega arith;
  most = omega arith;
}

-- something may follow each keyword
sample : (word : ScriptWord) → Begins (Follows word) []
sample Comment = ([], tt)
sample Write = (codes "00", one_pair)
sample Read = (decimal 0, (0, omega arith, omega arith, refl))
sample Clear = (decimal 0, (0, omega arith, omega arith, refl))
sample Action = (decimal 0 ++ 32 ∷ decimal 0, (0, decimal 0, omega arith, (0, omega arith, omega arith, refl), refl))
sample Table = (codes "own", inr (inl refl))
sample Error = (codes "00", one_pair)
sample Turns = (codes "F", letter)
sample Peek = (decimal 0 ++ 32 ∷ decimal 1, (0, decimal 1, omega arith, (1, omega arith, omega arith, refl), refl))
sample Fatal = (codes "00", one_pair)
sample Bridge = (decimal 0, (0, omega arith, omega arith, refl))
sample word = ([], refl)

-- the lines of a script
pub script : IsLanguage codes_of Follows all_words IsLine
script = language codes_of Follows all_words IsValid text_of alone sample (blank, tt, refl) line_behind line_is

-- what a text that was read means
pub means : (text : List ℕ) (line : ScriptLine) → IsText text line → Means text (line_of line)
means text parsed.Blank (inl empty) = AsWritten (line_of parsed.Blank) empty
means text parsed.Blank (inr (rest, is)) = AsComment rest is
means text line is = AsWritten (line_of line) is
