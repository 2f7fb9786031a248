-- The lines that are checked are a language of keywords.
use Rattle.std.proofs.Common.{◌≡◌, ℕ, ◌⊎◌, inl, inr, List, [], ◌∷◌, ◌++◌, refl}
use Rattle.std.specs.Prelude.{codes}
use Rattle.script_lines.specs.Columns.{Begins}
use Rattle.script_text.specs.CheckGrammar.{CheckedLine, blank, comment, erst, hest, bert, one_record, block, IsValidCheck, check_text_of, IsCheckLine}
use Rattle.script_text.specs.CheckWords.{check_codes_of, CheckFollows}
use Rattle.script_text.specs.declared.check_line.CheckWord.{CheckWord}
use Rattle.script_text.specs.declared.check_line.CheckWord.TheVariants.{Comment, Erst, Hest, Bert, Record, Block}
use Rattle.script_lines.proofs.BehindLemmas.{IsOne, IsAlone}
use Rattle.script_lines.proofs.KeywordLemmas.{IsLanguage, one_of_all, language}
use Rattle.script_lines.proofs.PairLemmas.{one_pair}

-- all keywords
abbrev pub all_check_words : List CheckWord
all_check_words = Comment ∷ Erst ∷ Hest ∷ Bert ∷ Record ∷ Block ∷ []

-- no keyword begins another
pub alone : (word : CheckWord) → IsAlone check_codes_of all_check_words word
alone = elim [ Comment ↦ refl | word ↦ refl ]

line_behind : (word : CheckWord) (rest : List ℕ) → CheckFollows word rest → IsCheckLine (check_codes_of word ++ rest)
line_behind Comment rest follows = (comment rest, tt, refl)
line_behind Erst rest follows = (erst rest, follows, refl)
line_behind Hest rest follows = (hest rest, follows, refl)
line_behind Bert rest follows = (bert rest, follows, refl)
line_behind Record rest follows = (one_record rest, follows, refl)
line_behind Block rest follows = (block rest, follows, refl)

-- a keyword and what follows it
reads : (word : CheckWord) (rest text : List ℕ) → CheckFollows word rest → text ≡ check_codes_of word ++ rest → (text ≡ []) ⊎ IsOne check_codes_of CheckFollows all_check_words text
reads word rest text follows e = inr (one_of_all check_codes_of CheckFollows all_check_words alone word text (record { rest = rest; is = e; follows = follows }))

line_is : (line : CheckedLine) → IsValidCheck line → (text : List ℕ) → text ≡ check_text_of line → (text ≡ []) ⊎ IsOne check_codes_of CheckFollows all_check_words text
line_is blank valid text e = inl e
line_is (comment rest) valid text e = reads Comment rest text tt e
line_is (erst hex) valid text e = reads Erst hex text valid e
line_is (hest hex) valid text e = reads Hest hex text valid e
line_is (bert hex) valid text e = reads Bert hex text valid e
line_is (one_record hex) valid text e = reads Record hex text valid e
line_is (block hex) valid text e = reads Block hex text valid e

sample : (word : CheckWord) → Begins (CheckFollows word) []
sample Comment = ([], tt)
sample word = (codes "00", one_pair)

-- the lines that are checked
pub checks : IsLanguage check_codes_of CheckFollows all_check_words IsCheckLine
checks = language check_codes_of CheckFollows all_check_words IsValidCheck check_text_of alone sample (blank, tt, refl) line_behind line_is
