-- A number with something behind it, by whole numbers alone.
use Rattle.std.proofs.Common.{◌≡◌, ◌∙◌, ℕ, ◌+◌, ◌-◌, ◌^◌, ◌<◌, ◌≤◌, ◌⊎◌, inl, inr, List, [], ◌∷◌, length, take, drop, get_or, refl, ap, arith}
use Rattle.std.specs.Prelude.{decimal}
use Rattle.std.proofs.lemmas.Bool.{cases_lt}
use Rattle.std.proofs.lemmas.List.{append-nil, take_all, length-take-le}
use Rattle.script_lines.specs.Columns.{Begins, Breaks}
use Rattle.script_lines.specs.Parts.{IsNumber, IsNumberThen, IsPairs, IsLongestNumber}
use Rattle.script_lines.proofs.NumberLemmas.{front_number, IsFront}
use Rattle.script_lines.proofs.NumberThenLemmas.{then_stops, then_goes}
use Rattle.script_lines.proofs.PairLemmas.{one_pair}

longest_of : (text : List ℕ) (value len : ℕ) → Breaks (IsNumber 0 (2 ^ 64 - 1)) text len →
    (0 < len → (take len text ≡ decimal value) × (0 ≤ value) × (value ≤ 2 ^ 64 - 1)) → IsLongestNumber 0 (2 ^ 64 - 1) text value len
longest_of text value len b number = record {
  within = b.within;
  number = number;
  longest = λ k m far within least most e. b.longest k far within ([], (m, least, most, append-nil (take k text) ∙ e));
}

some_pairs : Begins IsPairs []
some_pairs = (48 ∷ 48 ∷ [], one_pair)

-- a text that is a number whole
pub number_alone : (text : List ℕ) (n : ℕ) → n ≤ 2 ^ 64 - 1 → text ≡ decimal n → Breaks (IsNumberThen (2 ^ 64 - 1) IsPairs) text (length text)
number_alone text n most is =
    then_stops (2 ^ 64 - 1) IsPairs n (length text) text (omega arith) some_pairs
    (record {
      within = omega arith;
      number = λ some. (take_all (length text) text (omega arith) ∙ is, omega arith, most);
      longest = λ k m far within least upper e. absurd (omega (arith, far, within));
    })
    (inr (inl refl))

-- a text that no number begins
pub no_number : (text : List ℕ) (len : ℕ) → Breaks (IsNumber 0 (2 ^ 64 - 1)) text len → (IsNumber 0 (2 ^ 64 - 1) (take len text) → ⊥) → Breaks (IsNumberThen (2 ^ 64 - 1) IsPairs) text len
no_number text len b none = choose (cases_lt 0 len) where
  choose : (0 < len) ⊎ (len ≤ 0) → Breaks (IsNumberThen (2 ^ 64 - 1) IsPairs) text len
  choose (inr zero) =
      then_stops (2 ^ 64 - 1) IsPairs 0 len text (omega arith) some_pairs (longest_of text 0 len b (λ some. absurd (omega (arith, some, zero)))) (inl (omega (arith, zero)))
  choose (inl some) = absurd (at (front_number b.begins.1.0 (take len text) b.begins.0 (let m = b.begins.1.2 in omega (arith, m)) b.begins.1.3)) where
    at : IsFront b.begins.1.0 (take len text) → ⊥
    at (inl empty) = let l = length-take-le len text b.within in let n = ap length empty in omega (arith, l, n, some)
    at (inr (n, most, is, positive)) = let m = b.begins.1.2 in none (n, omega arith, omega (arith, most, m), is)

-- a number, and no space behind it
pub number_stops : (text : List ℕ) (value len : ℕ) → Breaks (IsNumber 0 (2 ^ 64 - 1)) text len → take len text ≡ decimal value → value ≤ 2 ^ 64 - 1 →
    (len ≡ length text) ⊎ (get_or text len 0 ≡ 32 → ⊥) →
    Breaks (IsNumberThen (2 ^ 64 - 1) IsPairs) text len
number_stops text value len b is most stops =
    then_stops (2 ^ 64 - 1) IsPairs value len text (omega arith) some_pairs (longest_of text value len b (λ some. (is, omega arith, most))) (inr stops)

-- a number, a space, and what are no pairs
pub number_goes : (text : List ℕ) (value len reach : ℕ) → Breaks (IsNumber 0 (2 ^ 64 - 1)) text len → take len text ≡ decimal value → value ≤ 2 ^ 64 - 1 →
    0 < length (decimal value) → len < length text → get_or text len 0 ≡ 32 →
    Breaks IsPairs (drop (len + 1) text) reach → Breaks (IsNumberThen (2 ^ 64 - 1) IsPairs) text (len + 1 + reach)
number_goes text value len reach b is most some below space breaks =
    then_goes (2 ^ 64 - 1) IsPairs value len reach text (omega arith) (longest_of text value len b (λ h. (is, omega arith, most)))
    (λ zero. let l = length-take-le len text b.within in let n = ap length is in omega (arith, l, n, zero, some)) below space breaks
