-- A number at the right end of its columns, as `{:>5}` writes it.
use Rattle.std.proofs.Common.{◌≡◌, ◌∙◌, ℕ, zero, suc, ◌-◌, ◌^◌, false, List, [], ◌∷◌, ◌++◌, length, replicate, refl, ap, ap₂, append-nil, decimal, arith}
use Rattle.std.specs.List.{repeat}
use Rattle.std.specs.Fmt.{padded_integral, char_count, format_spec}
use lib.Utf8.{encode}
use Rattle.apei_look.specs.Texts.{space}
use Rattle.apei_look.specs.SlotTexts.{right_aligned}

spaces : (n : ℕ) → repeat n (space ∷ []) ≡ replicate n space
spaces zero = refl
spaces (suc n) = ap (λ (t : List ℕ). space ∷ t) (spaces n)

behind_spaces : (before after n : ℕ) (text : List ℕ) → before ≡ n → after ≡ 0
    → (((repeat before (space ∷ []) ++ []) ++ []) ++ []) ++ (text ++ repeat after (space ∷ [])) ≡ replicate n space ++ text
behind_spaces before after n text is none =
    let filled = repeat before (space ∷ []) in
    let front : ((filled ++ []) ++ []) ++ [] ≡ replicate n space =
    append-nil ((filled ++ []) ++ []) ∙ append-nil (filled ++ []) ∙ append-nil filled ∙ spaces before ∙ ap (λ (k : ℕ). replicate k space) is in
    let end : text ++ repeat after (space ∷ []) ≡ text = ap (λ (k : ℕ). text ++ repeat k (space ∷ [])) none ∙ append-nil text in
    ap₂ (λ (a b : List ℕ). a ++ b) front end

pub aligned : (number : ℕ) → padded_integral (format_spec 32 3 0 5 (2 ^ 64 - 1)) false [] (decimal number) ≡ right_aligned 5 number
unfolding padded_integral char_count encode
aligned number =
    let n = 5 - length (decimal number) in
    behind_spaces (n - 0 - 0) (n - 0 - 0 - (n - 0 - 0)) n (decimal number) (omega arith) (omega arith)
