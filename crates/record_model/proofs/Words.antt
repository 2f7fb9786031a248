-- Words that proofs alone need.
use Rattle.std.specs.Prelude.{◌≡◌, ℕ, zero, suc, ◌+◌, ◌-◌, ◌*◌, ◌<◌, Bool, true, false, ◌==◌, ◌&&◌, not, nat_lt, nat_le, List, drop, Option, Some, None}
use Rattle.base_model.specs.Bytes.{SameOutside}
use Rattle.record_model.specs.Records.{Head, Slot, slot_at, is_up, parts_of, Entry, entry_of, IsChosen, is_taken, count_below, is_behind}

-- whether an entry takes the place of what its identifier has
abbrev pub is_newer : Entry → Option (List ℕ × ℕ) → Bool
is_newer entry kept = elim kept [ None ↦ true | Some old ↦ nat_lt old.1 entry.generation ]

-- the numbers behind those of its further slots that a head has
abbrev pub unused_of : ℕ → Head → List ℕ
unused_of room head = drop (parts_of room head.len - 1) head.next

-- the form of a record that fits one slot
abbrev pub is_alone : ℕ → Head → Bool
is_alone room head = head.format == 1 && nat_le head.len room

-- the record of slot k, if it has one, is that of its identifier
abbrev pub leads : (ℕ → Option Entry) → ℕ → Option Entry → ℕ → Bool
leads entry n o k = elim o [ None ↦ false | Some this ↦ not (is_behind entry n this k) ]

-- only first slots of records are upright
abbrev pub HasOnlyFirst : ℕ → ℕ → (ℕ → Slot) → Type 0
HasOnlyFirst room slots slot =
    (k : ℕ) → k < slots → is_up room slots (slot k) ≡ true → (e : Entry) × IsChosen (entry_of room slots slot) slots k e

-- the image differs from the first one only in slot j, which is not upright
pub record DiffersInFreeSlot (slot_size slots j : ℕ) (first image : List ℕ) : Type 0 where
  pub same : SameOutside (j * slot_size) slot_size first image
  pub down : is_up (slot_size - 64) slots (slot_at slot_size image j) ≡ false

-- no two of the first n slots have one identifier
abbrev pub AreSingle : (ℕ → Option Entry) → ℕ → Type 0
AreSingle entry n =
    (j k : ℕ) (one other : Entry) → j < n → k < n → entry j ≡ Some one → entry k ≡ Some other → one.id ≡ other.id → j ≡ k

-- whatever stands in the range, the slot is not upright
abbrev pub StaysDown : ℕ → ℕ → ℕ → ℕ → ℕ → List ℕ → Type 0
StaysDown place len size slots slot image =
    (other : List ℕ) → SameOutside place len image other → is_up (size - 64) slots (slot_at size other slot) ≡ false

-- how many of the n slots are free
unfoldable pub free_among : (ℕ → Option Entry) → ℕ → ℕ
free_among entry n = count_below (λ j. not (is_taken entry n j)) n

-- one for a slot that is no record's first
abbrev pub one_if_none : Option Entry → ℕ
one_if_none None = 1
one_if_none (Some entry) = 0

-- how many of the first n slots are no record's first
unfoldable pub empty_among : (ℕ → Option Entry) → ℕ → ℕ
empty_among entry zero = 0
empty_among entry (suc n) = one_if_none (entry n) + empty_among entry n
