-- The keywords of a language of lines.
use Rattle.std.specs.Prelude.{◌≡◌, ◌<◌, ◌≤◌, ◌⊎◌, length, take, drop, slice_get, All, ℕ, suc, ◌==◌, if◌then◌else◌, List, [], ◌∷◌, ◌++◌, Some}

-- how many first elements two lists have in common
abbrev pub common_length : List ℕ → List ℕ → ℕ
common_length [] text = 0
common_length (a ∷ word) [] = 0
common_length (a ∷ word) (b ∷ text) = if a == b then suc (common_length word text) else 0

-- a text begins with none of the keywords; it goes along with one of them so far, and with none further
pub record HasNoKeyword {K : Type 0} (codes_of : K → List ℕ) (text : List ℕ) (reach : ℕ) (keywords : List K) : Type 0 where
  pub each : All (λ keyword. (common_length (codes_of keyword) text < length (codes_of keyword)) × (common_length (codes_of keyword) text ≤ reach)) keywords
  pub some : (reach ≡ 0) ⊎ ((keyword : K) × (common_length (codes_of keyword) text ≡ reach))

-- a text begins with this keyword, and with none of those before it
pub record IsFirstKeyword {K : Type 0} (codes_of : K → List ℕ) (text : List ℕ) (keywords : List K) (keyword : K) : Type 0 where
  pub begins : text ≡ codes_of keyword ++ drop (length (codes_of keyword)) text
  pub place : ℕ
  pub is : slice_get keywords place ≡ Some keyword
  pub reach : ℕ
  pub none_before : HasNoKeyword codes_of text reach (take place keywords)
