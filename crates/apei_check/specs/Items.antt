-- What a check of one item shows: the lines of what the bytes begin with, or why they begin with none.
use Rattle.std.specs.Prelude.{◌≡◌, ℕ, ◌-◌, ◌≤◌, List, [], ◌∷◌, ◌++◌, length, take}
use Rattle.apei_check.specs.Shown.{lines_shown}
use Rattle.apei_check.specs.declared.text.show.Show.{Show}

-- the bytes begin with an item of so many bytes, and these are the lines of it that are shown: the one on the whole, which tells how long it
-- is and how many bytes stand behind it, and those on its parts
pub record ItemShown {X : Type 0} (Is : X → List ℕ → Type 0) (head : X → ℕ → ℕ → List ℕ) (parts : X → List (List ℕ)) (show : Show) (bytes : List ℕ) (lines : List (List ℕ)) : Type 0 where
  pub item : X
  pub size : ℕ
  pub within : size ≤ length bytes
  pub is : Is item (take size bytes)
  pub shown : lines ≡ lines_shown show (head item size (length bytes - size)) (parts item)

-- they begin with none, and one line says why, whatever is to be shown
pub record ItemRefused {E : Type 0} (Refuses : List ℕ → E → Type 0) (front : List ℕ) (words : E → List ℕ) (bytes : List ℕ) (lines : List (List ℕ)) : Type 0 where
  pub why : E
  pub first : Refuses bytes why
  pub shown : lines ≡ (front ++ words why) ∷ []
