-- The texts of a structure, by their numbers, which count from 1 (DSP0134, 6.1.3).
use Rattle.std.specs.Prelude.{◌≡◌, ℕ, ◌+◌, ◌<◌, ◌≤◌, ◌≢◌, List, [], ◌∷◌, ◌++◌, length, map, slice_index, Option, Some, None, MatchBool, nat_le, ◌⊎◌}
use Rattle.base_model.specs.Bytes.{joined, number_at}
use Rattle.smbios.specs.Lists.{Each}
use Rattle.smbios.specs.Structures.{Pair}

-- a text is not empty, and no byte of it is zero
pub record IsText (text : List ℕ) : Type 0 where
  pub some : 1 ≤ length text
  pub bytes : (k : ℕ) → k < length text → slice_index text k ≢ 0

abbrev pub terminated : List ℕ → List ℕ
terminated text = text ++ 0 ∷ []

-- no text with its zero byte stands first
abbrev pub HasNoText : List ℕ → Type 0
HasNoText bytes = (text rest : List ℕ) → IsText text → ¬ (bytes ≡ text ++ 0 ∷ rest)

-- these texts stand first, each with its zero byte, and then the rest
pub record Follows (bytes : List ℕ) (texts : List (List ℕ)) (rest : List ℕ) : Type 0 where
  pub each : Each IsText texts
  pub all : bytes ≡ joined (map terminated texts) ++ rest

-- the text of this number, or none: the number is 0, or there are fewer texts
abbrev pub IsNumbered : List ℕ → ℕ → Option (List ℕ) → Type 0
IsNumbered strings number (Some text) =
    (texts : List (List ℕ)) × (rest : List ℕ) × Follows strings texts (text ++ 0 ∷ rest) × IsText text × (number ≡ length texts + 1)
IsNumbered strings number None =
    (number ≡ 0) ⊎ ((texts : List (List ℕ)) × (rest : List ℕ) × Follows strings texts rest × HasNoText rest × (length texts < number))

-- the text whose number is the byte at a place of the formatted area
abbrev pub IsTextAt : Pair → ℕ → Option (List ℕ) → Type 0
IsTextAt one at text = MatchBool (nat_le (at + 1) (length one.formatted)) (IsNumbered one.strings (number_at one.formatted at 1) text) (text ≡ None)
