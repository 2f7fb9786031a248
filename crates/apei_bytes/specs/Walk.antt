-- Items that stand one after another in bytes.
use Rattle.std.specs.Prelude.{◌≡◌, ℕ, zero, suc, ◌+◌, List, [], ◌∷◌, ◌++◌, length, drop, Bool, if◌then◌else◌, Result, Ok, Err}

-- how items are read from the front of bytes: whether there are none left, how long the first one is, by its index and place, or
-- why there is none, and what it is
pub record Walk (X E : Type 0) : Type 0 where
  pub ends : List ℕ → Bool
  pub size : ℕ → ℕ → List ℕ → Result ℕ E
  pub item : ℕ → List ℕ → ℕ → X

-- the items from a place on, as many as there are at most, up to a fault
unfoldable pub items_in : {X E : Type 0} → Walk X E → ℕ → ℕ → ℕ → List ℕ → List X
items_in walk zero index at rest = []
items_in walk (suc most) index at rest =
    if walk.ends rest then []
    else elim (walk.size index at rest) [
      | Ok len ↦ walk.item at rest len ∷ items_in walk most (index + 1) (at + len) (drop len rest)
      | Err error ↦ []
    ]

-- how many items there are, of which the next has this index and place, or the first fault
unfoldable pub item_count : {X E : Type 0} → Walk X E → ℕ → ℕ → ℕ → List ℕ → Result ℕ E
item_count walk zero index at rest = Ok index
item_count walk (suc most) index at rest =
    if walk.ends rest then Ok index
    else elim (walk.size index at rest) [
      | Ok len ↦ item_count walk most (index + 1) (at + len) (drop len rest)
      | Err error ↦ Err error
    ]

-- the bytes are these items, one after another from a place on, and then a rest of this kind
abbrev pub AreItems : {X : Type 0} → (ℕ → X → List ℕ → Type 0) → (List ℕ → Type 0) → ℕ → List X → List ℕ → Type 0
AreItems Is Rest at [] bytes = Rest bytes
AreItems Is Rest at (item ∷ items) bytes =
    (front : List ℕ) × (rest : List ℕ) × (bytes ≡ front ++ rest) × Is at item front × AreItems Is Rest (at + length front) items rest
