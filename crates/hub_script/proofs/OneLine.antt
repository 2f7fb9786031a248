-- Lines with one text are one line.
use Rattle.std.proofs.Common.{◌≡◌, ℕ, ◌^◌, ◌<◌, ◌⊎◌, inl, inr, List, ◌∷◌, ◌++◌, refl, sym, ap, ◌∙◌, arith}
use Rattle.std.specs.Prelude.{decimal}
use Rattle.std.proofs.lemmas.Fmt.{decimal_injective}
use Rattle.script_lines.proofs.OneLine.{IsReading as IsReadingOf, one_line as one_line_of, same_then}
use Rattle.hub_script.specs.HubGrammar.{Line, IsValid, text_of, blank, comment, hest, error, turns, heard, removal}
use Rattle.hub_script.proofs.Terms.{codes_of}
use Rattle.hub_script.specs.declared.hub_line.HubWord.{HubWord}
use Rattle.hub_script.specs.declared.hub_line.HubWord.TheVariants.{Comment, Hest, Error, Turns, Heard, Drop}
use Rattle.hub_script.proofs.LineLemmas.{all_words, alone}

-- what a line is that a word begins
abbrev IsReadAs : HubWord → List ℕ → Line → Type 0
IsReadAs Comment rest line = line ≡ comment rest
IsReadAs Hest rest line = line ≡ hest rest
IsReadAs Error rest line = (m : ℕ) × (hex : List ℕ) × (m < 2 ^ 64) × (rest ≡ decimal m ++ 32 ∷ hex) × (line ≡ error m hex)
IsReadAs Turns rest line = line ≡ turns rest
IsReadAs Heard rest line = (n : ℕ) × (n < 2 ^ 64) × (rest ≡ decimal n) × (line ≡ heard n)
IsReadAs Drop rest line = (m : ℕ) × (n : ℕ) × (m < 2 ^ 64) × (n < 2 ^ 64) × (rest ≡ decimal m ++ 32 ∷ decimal n) × (line ≡ removal m n)

same_error : (rest : List ℕ) (a b : Line) → IsReadAs Error rest a → IsReadAs Error rest b → a ≡ b
same_error rest a b x y =
    let parts = same_then x.0 y.0 x.1 y.1 x.2 y.2 (sym x.3 ∙ y.3) in
    x.4 ∙ ap (λ (m : ℕ). error m x.1) parts.0 ∙ ap (error y.0) parts.1 ∙ sym y.4

same_removal : (rest : List ℕ) (a b : Line) → IsReadAs Drop rest a → IsReadAs Drop rest b → a ≡ b
same_removal rest a b x y =
    let parts = same_then x.0 y.0 (decimal x.1) (decimal y.1) x.2 y.2 (sym x.4 ∙ y.4) in
    x.5 ∙ ap (λ (m : ℕ). removal m x.1) parts.0 ∙ ap (removal y.0) (decimal_injective x.1 y.1 x.3 y.3 parts.1) ∙ sym y.5

-- a word and what is behind it make one line
same_read : (word : HubWord) (rest : List ℕ) (a b : Line) → IsReadAs word rest a → IsReadAs word rest b → a ≡ b
same_read Comment rest a b x y = x ∙ sym y
same_read Hest rest a b x y = x ∙ sym y
same_read Error rest a b x y = same_error rest a b x y
same_read Turns rest a b x y = x ∙ sym y
same_read Heard rest a b x y = x.3 ∙ ap heard (decimal_injective x.0 y.0 x.1 y.1 (sym x.2 ∙ y.2)) ∙ sym y.3
same_read Drop rest a b x y = same_removal rest a b x y

-- how a line begins
abbrev IsReading : Line → Type 0
IsReading line = IsReadingOf codes_of text_of IsReadAs line

reading : (line : Line) → IsValid line → (line ≡ blank) ⊎ IsReading line
reading blank valid = inl refl
reading (comment rest) valid = inr (record { word = Comment; rest = rest; is = refl; reads = refl })
reading (hest hex) valid = inr (record { word = Hest; rest = hex; is = refl; reads = refl })
reading (error m hex) valid = inr (record { word = Error; rest = decimal m ++ 32 ∷ hex; is = refl; reads = (m, hex, valid.0, refl, refl) })
reading (turns pairs) valid = inr (record { word = Turns; rest = pairs; is = refl; reads = refl })
reading (heard n) valid = inr (record { word = Heard; rest = decimal n; is = refl; reads = (n, valid, refl, refl) })
reading (removal m n) valid = inr (record { word = Drop; rest = decimal m ++ 32 ∷ decimal n; is = refl; reads = (m, n, valid.0, valid.1, refl, refl) })

pub one_line : (a b : Line) → IsValid a → IsValid b → text_of a ≡ text_of b → a ≡ b
one_line a b in_a in_b e = one_line_of codes_of all_words alone (omega arith) text_of blank refl IsReadAs same_read a b (reading a in_a) (reading b in_b) e
