-- The records that slots hold: of several with one identifier that of greatest generation, the lower slot at a tie.
use Rattle.std.specs.Prelude.{◌≡◌, ℕ, zero, suc, ◌<◌, ◌≤◌, true, nat_lt, if◌then◌else◌, List, length, Option, Some, None}
use Rattle.std.specs.List.{sum_by}
use Rattle.std.specs.Ordering.{nat_cmp}
use Rattle.std.specs.FinMap.{FinMap, empty, get, insert, values}
use Rattle.record_model.specs.Slots.{parts_of}
use Rattle.record_model.specs.Entries.{Entry, entry_at}

-- records by their identifiers, each with its generation
abbrev pub Stored : Type 0
Stored = FinMap nat_cmp (List ℕ × ℕ)

-- an entry takes the place of what its identifier has, where that is nothing, or of a lesser generation
abbrev pub with_entry : Option Entry → Stored → Stored
with_entry None stored = stored
with_entry (Some entry) stored =
    if elim (get stored entry.id) [ None ↦ true | Some kept ↦ nat_lt kept.1 entry.generation ]
    then insert stored entry.id (entry.body, entry.generation)
    else stored

-- of the first n of some slots, the record of each identifier: that of greatest generation, the lower slot at a tie
unfoldable pub selected : (ℕ → Option Entry) → ℕ → Stored
selected entry zero = empty
selected entry (suc n) = with_entry (entry n) (selected entry n)

-- the records that an image holds
unfoldable pub stored_in : ℕ → ℕ → List ℕ → Stored
stored_in slot_size slots image = selected (entry_at slot_size slots image) slots

-- how many slots the records of a map stand in
unfoldable pub parts_in : ℕ → Stored → ℕ
parts_in room stored = sum_by (λ kept. parts_of room (length kept.0)) (values stored)

-- the same in words: slot k of the first n has the record of its identifier
pub record IsChosen (entry : ℕ → Option Entry) (n k : ℕ) (chosen : Entry) : Type 0 where
  pub within : k < n
  pub here : entry k ≡ Some chosen
  pub greatest : (j : ℕ) (other : Entry) → j < n → entry j ≡ Some other → other.id ≡ chosen.id → other.generation ≤ chosen.generation
  pub lowest : (j : ℕ) (other : Entry) → j < k → entry j ≡ Some other → other.id ≡ chosen.id → other.generation < chosen.generation
