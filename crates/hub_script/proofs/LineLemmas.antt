-- The lines are a language of keywords.
use Rattle.std.proofs.Common.{◌≡◌, ℕ, zero, suc, ◌<◌, ◌⊎◌, inl, inr, List, [], ◌∷◌, ◌++◌, get_or, refl, ap, ◌∙◌, arith}
use Rattle.std.specs.Prelude.{IsTrue, decimal, codes}
use Rattle.script_lines.specs.Columns.{Begins}
use Rattle.script_lines.proofs.BehindLemmas.{IsBehind, IsOne, IsAlone}
use Rattle.script_lines.proofs.KeywordLemmas.{IsLanguage, one_of_all, language}
use Rattle.script_lines.proofs.PairLemmas.{one_pair}
use Rattle.hub_script.specs.Turns.{may_stand, AreTurns}
use Rattle.hub_script.specs.HubGrammar.{Line, IsLine, IsValid, text_of, blank, comment, hest, error, turns, heard, removal}
use Rattle.hub_script.proofs.Terms.{Follows}
use Rattle.hub_script.proofs.Terms.{codes_of}
use Rattle.hub_script.specs.declared.hub_line.HubWord.{HubWord}
use Rattle.hub_script.specs.declared.hub_line.HubWord.TheVariants.{Comment, Hest, Error, Turns, Heard, Drop}

-- all keywords
abbrev pub all_words : List HubWord
all_words = Comment ∷ Hest ∷ Error ∷ Turns ∷ Heard ∷ Drop ∷ []

-- no keyword begins another
pub alone : (word : HubWord) → IsAlone codes_of all_words word
alone = elim [ Comment ↦ refl | word ↦ refl ]

line_behind : (word : HubWord) (rest : List ℕ) → Follows word rest → IsLine (codes_of word ++ rest)
line_behind Comment rest follows = (comment rest, tt, refl)
line_behind Hest rest follows = (hest rest, follows, refl)
line_behind Error rest (m, u, most_m, is, e) = (error m u, (omega arith, is), ap (λ (x : List ℕ). codes "error " ++ x) e)
line_behind Turns rest follows = (turns rest, follows, refl)
line_behind Heard rest follows = (heard follows.0, (let h = follows.2 in omega arith), ap (λ (x : List ℕ). codes "heard " ++ x) follows.3)
line_behind Drop rest (m, u, most_m, (n, least_n, most_n, is), e) = (removal m n, (omega arith, omega arith), ap (λ (x : List ℕ). codes "drop " ++ x) (e ∙ ap (λ (x : List ℕ). decimal m ++ 32 ∷ x) is))

one_of : (word : HubWord) (text : List ℕ) → IsBehind codes_of Follows word text → IsOne codes_of Follows all_words text
one_of = one_of_all codes_of Follows all_words alone

line_is : (line : Line) → IsValid line → (text : List ℕ) → text ≡ text_of line → (text ≡ []) ⊎ IsOne codes_of Follows all_words text
line_is blank valid text e = inl e
line_is (comment rest) valid text e = inr (one_of Comment text (record { rest = rest; is = e; follows = tt }))
line_is (hest hex) valid text e = inr (one_of Hest text (record { rest = hex; is = e; follows = valid }))
line_is (error m hex) valid text e = inr (one_of Error text (record { rest = decimal m ++ 32 ∷ hex; is = e; follows = (m, hex, (let h = valid.0 in omega arith), valid.1, refl) }))
line_is (turns pairs) valid text e = inr (one_of Turns text (record { rest = pairs; is = e; follows = valid }))
line_is (heard m) valid text e = inr (one_of Heard text (record { rest = decimal m; is = e; follows = (m, omega arith, omega arith, refl) }))
line_is (removal m n) valid text e = inr (one_of Drop text (record {
  rest = decimal m ++ 32 ∷ decimal n;
  is = e;
  follows = (m, decimal n, (let h = valid.0 in omega arith), (n, omega arith, (let h = valid.1 in omega arith), refl), refl);
}))

one_turn : AreTurns (48 ∷ 70 ∷ [])
one_turn = record {
  each = λ i within. two i within;
  even = (1, refl);
  some = omega arith;
  most = omega arith;
} where
  two : (i : ℕ) → i < 2 → IsTrue (may_stand i (get_or (48 ∷ 70 ∷ []) i 0))
  two zero within = refl
  two (suc zero) within = refl
  two (suc (suc i)) within = absurd (omega (arith, within))

-- something may follow each keyword
sample : (word : HubWord) → Begins (Follows word) []
sample Comment = ([], tt)
sample Hest = (codes "00", one_pair)
sample Error = (decimal 0 ++ 32 ∷ codes "00", (0, codes "00", omega arith, one_pair, refl))
sample Turns = (codes "0F", one_turn)
sample Heard = (decimal 0, (0, omega arith, omega arith, refl))
sample Drop = (decimal 0 ++ 32 ∷ decimal 0, (0, decimal 0, omega arith, (0, omega arith, omega arith, refl), refl))

pub hubs : IsLanguage codes_of Follows all_words IsLine
hubs = language codes_of Follows all_words IsValid text_of alone sample (blank, tt, refl) line_behind line_is
