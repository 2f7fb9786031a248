-- Fields one after another, as proofs take them apart.
use Rattle.std.specs.Prelude.{ℕ, List, [], ◌∷◌, take, drop, ◌+◌}

-- the fields of these sizes that a list begins with
abbrev pub cut : List ℕ → List ℕ → List (List ℕ)
cut [] bytes = []
cut (size ∷ sizes) bytes = take size bytes ∷ cut sizes (drop size bytes)

-- how long fields of these sizes are together
abbrev pub total : List ℕ → ℕ
total [] = 0
total (size ∷ sizes) = size + total sizes
