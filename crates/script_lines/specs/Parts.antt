-- What may stand in a line behind its keyword.
use Rattle.std.specs.Prelude.{◌≡◌, ℕ, ◌*◌, ◌<◌, ◌≤◌, List, [], ◌∷◌, ◌++◌, length, take, decimal, All, IsTrue}
use Rattle.std.specs.Char.{is_ascii_hexdigit}

-- one or more pairs of hexadecimal digits of either case
pub record IsPairs (text : List ℕ) : Type 0 where
  pub digits : All (λ c. IsTrue (is_ascii_hexdigit c)) text
  pub even : (n : ℕ) × (length text ≡ 2 * n)
  pub some : 0 < length text

-- a decimal number from the least to the most
abbrev pub IsNumber : ℕ → ℕ → List ℕ → Type 0
IsNumber least most = λ text. (n : ℕ) × (least ≤ n) × (n ≤ most) × (text ≡ decimal n)

-- a number, a space, and a text of a language
abbrev pub IsNumberThen : ℕ → (List ℕ → Type 0) → List ℕ → Type 0
IsNumberThen first Is = λ text. (m : ℕ) × (u : List ℕ) × (m ≤ first) × Is u × (text ≡ decimal m ++ 32 ∷ u)

-- two numbers with a space between them
abbrev pub AreTwoNumbers : ℕ → ℕ → ℕ → List ℕ → Type 0
AreTwoNumbers first least most = IsNumberThen first (IsNumber least most)

-- the longest beginning of a text that is such a number; where it is empty there is none
pub record IsLongestNumber (least most : ℕ) (text : List ℕ) (value len : ℕ) : Type 0 where
  pub within : len ≤ length text
  pub number : 0 < len → (take len text ≡ decimal value) × (least ≤ value) × (value ≤ most)
  pub longest : (k m : ℕ) → len < k → k ≤ length text → least ≤ m → m ≤ most → ¬ (take k text ≡ decimal m)
