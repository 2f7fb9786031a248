-- The storage of QEMU's device acpi-erst: its header, the map of its identifiers, and the places of its records.
use Rattle.std.specs.Prelude.{◌≡◌, ℕ, ◌+◌, ◌-◌, ◌*◌, ◌/◌, ◌^◌, ◌==◌, ◌&&◌, not, Bool, true, false, nat_lt, List, [], ◌∷◌, length, take, codes, Some, None}
use Rattle.base_model.specs.Bytes.{part}
use Rattle.show_findings.specs.declared.items.Item.TheVariants.{Record}
use Rattle.show_findings.specs.Places.{item_len, seen_number}
use Rattle.show_items.specs.Headers.{IsHeader, qemu_structure}
use Rattle.show_items.specs.Items.{Shown}
use Rattle.show_items.specs.Places.{AreFrom}
use Rattle.show_items.specs.Records.{IsRecord}

-- the size of a place, the first place of a record, and the end of the places
abbrev pub place_size : List ℕ → ℕ
place_size bytes = seen_number bytes 8 4

abbrev pub first_place : List ℕ → ℕ
first_place bytes = seen_number bytes 12 4 / place_size bytes

abbrev pub end_of_places : List ℕ → ℕ
end_of_places bytes = length bytes / place_size bytes

-- the identifier that the map has for a place; 0 and the greatest number are none
abbrev pub identifier : List ℕ → ℕ → ℕ
identifier bytes place = seen_number bytes (24 + 8 * place) 8

abbrev pub has_identifier : List ℕ → ℕ → Bool
has_identifier bytes place = not (identifier bytes place == 0) && not (identifier bytes place == 2 ^ 64 - 1)

-- the bytes of a place, and the record that they begin with
abbrev pub at_place : List ℕ → ℕ → List ℕ
at_place bytes place = part bytes (place * place_size bytes) (place_size bytes)

abbrev pub record_in : List ℕ → List ℕ
record_in bytes = take (item_len Record bytes) bytes

abbrev pub IsStored : List ℕ → ℕ → Shown → Type 0
IsStored bytes place item = IsRecord (Some (place * place_size bytes)) (record_in (at_place bytes place)) item

-- the records of so many places, from one on: of each whose place has an identifier
abbrev pub AreStoredFrom : (early : Bool) → List ℕ → (place left : ℕ) → List Shown → Type 0
AreStoredFrom early bytes place left items = AreFrom early (has_identifier bytes) (IsStored bytes) place left items

abbrev pub AreStored : (early : Bool) → List ℕ → List Shown → Type 0
AreStored early bytes items =
    AreStoredFrom early bytes (first_place bytes) (end_of_places bytes - first_place bytes) items

-- where the header tells no size of a place, there are none
abbrev pub AreStoredIf : (early has_size : Bool) → List ℕ → List Shown → Type 0
AreStoredIf early false bytes items = items ≡ []
AreStoredIf early true bytes items = AreStored early bytes items

abbrev pub IsStorageHeader : List ℕ → Shown → Type 0
IsStorageHeader bytes item = IsHeader (codes "qemu") qemu_structure (part bytes 0 24) bytes None item

-- the header, and behind it the records
abbrev pub AreStorageItems : (early : Bool) → List ℕ → List Shown → Type 0
AreStorageItems early bytes [] = ⊥
AreStorageItems early bytes (header ∷ records) =
    IsStorageHeader bytes header × AreStoredIf early (nat_lt 0 (place_size bytes)) bytes records
