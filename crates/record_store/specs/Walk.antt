-- A walk over the stored identifiers, by one next after another, with other commands between them.
use Rattle.std.specs.Prelude.{◌≡◌, ℕ, List, [], ◌∷◌, Some, None, IsSome}
use Rattle.std.specs.FinMap.{get}
use Rattle.base_model.specs.Layout.{Layout}
use Rattle.record_model.specs.Records.{Stored}
use Rattle.record_model.specs.RecordMap.{Read}
use Rattle.record_model.specs.History.{Answer, Found, Played, left_by}

abbrev pub with_found : Answer → List ℕ → List ℕ
with_found (Found (Some id)) ids = id ∷ ids
with_found answer ids = ids

-- the identifiers that were found, in the order of the commands
abbrev pub found_by : List Played → List ℕ
found_by [] = []
found_by (played ∷ rest) = with_found played.answer (found_by rest)

abbrev pub EndsOr : Answer → List Played → Type 0 → Type 0
EndsOr (Found None) rest more = rest ≡ []
EndsOr answer rest more = more

-- no read is among these commands, which moves the cursor too, and the last of them is the first next that found no more
abbrev pub IsWalk : List Played → Type 0
IsWalk [] = ⊥
IsWalk (played ∷ rest) = (elim played.command as (λ command. Type 0) [ Read id ↦ ⊥ | other ↦ Unit {0} ]) × EndsOr played.answer rest (IsWalk rest)

-- an identifier is stored before the commands, and after every one of them
abbrev pub StaysStored : Layout → ℕ → List Played → Stored → Type 0
StaysStored layout id [] stored = IsSome (get stored id)
StaysStored layout id (played ∷ rest) stored = IsSome (get stored id) × StaysStored layout id rest (left_by layout played stored)
