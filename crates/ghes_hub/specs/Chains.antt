-- Lists one behind the other.
use Rattle.std.specs.Prelude.{List, [], ◌∷◌, ◌++◌}

abbrev pub in_order : {L : Type 0} → List (List L) → List L
in_order [] = []
in_order (list ∷ lists) = list ++ in_order lists
