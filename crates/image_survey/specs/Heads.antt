-- Which geometry an image seems to have, by the heads that stand in it, and what kind of file that makes it.
use Rattle.std.specs.Prelude.{◌≡◌, ℕ, ◌+◌, ◌-◌, ◌*◌, ◌/◌, ◌<◌, ◌≤◌, nat_lt, Bool, true, false, if◌then◌else◌, List, length, Option, Some, None}
use Rattle.flash_model.specs.Limits.{IsGeometry}
use Rattle.flash_model.specs.declared.geometry.Geometry.{Geometry}
use Rattle.record_model.specs.Records.{Head, Slot, slot_at, is_upright, not_killed, count_below}
use Rattle.image_survey.specs.Kinds.{kind_at}
use Rattle.image_survey.specs.declared.kinds.SlotKind.{SlotKind}
use Rattle.image_survey.specs.declared.kinds.SlotKind.TheVariants.{Unknown}
use Rattle.image_survey.specs.declared.heads.Guess.{Guess}
use Rattle.image_survey.specs.declared.files.FileKind.{FileKind}
use Rattle.image_survey.specs.declared.files.FileView.{FileView}
use Rattle.image_survey.specs.declared.files.FileKind.TheVariants.{Store, Other, Foreign}

-- a slot has the head and the tail mark of a record's first slot, whether it was killed since or not
unfoldable pub has_head : ℕ → ℕ → Slot → Bool
has_head room slots slot = is_upright room slots (record slot.head { kill = not_killed }) slot.tail

-- how many slots of an image have
unfoldable pub heads_in : ℕ → ℕ → List ℕ → ℕ
heads_in slot_size slots image = count_below (λ k. has_head (slot_size - 64) slots (slot_at slot_size image k)) slots

-- so many bytes are those of whole slots of so many sectors of such a size, within the limits
pub record Suits (len sector per_slot : ℕ) : Type 0 where
  pub limits : IsGeometry sector per_slot (len / (sector * per_slot))
  pub whole : sector * per_slot * (len / (sector * per_slot)) ≡ len

-- the geometry of such slots
pub record IsSuiting (len sector per_slot : ℕ) (geometry : Geometry) : Type 0 where
  pub suits : Suits len sector per_slot
  pub of_sector : geometry.sector ≡ sector
  pub of_per_slot : geometry.per_slot ≡ per_slot
  pub of_slots : geometry.slots ≡ len / (sector * per_slot)

-- the heads of an image in slots of so many sectors of such a size
abbrev pub heads_by : List ℕ → ℕ → ℕ → ℕ
heads_by image sector per_slot = heads_in (sector * per_slot) (length image / (sector * per_slot)) image

-- the order in which slots are tried: by their sectors, and those of as many by the size of one, a multiple of 256
abbrev pub turn_of : ℕ → ℕ → ℕ
turn_of sector per_slot = per_slot * 256 + sector / 256

-- no slots that are tried before a turn have a head
abbrev pub NoneBefore : List ℕ → ℕ → Type 0
NoneBefore image turn = (sector per_slot : ℕ) → Suits (length image) sector per_slot → turn_of sector per_slot < turn → heads_by image sector per_slot ≡ 0

-- the geometry with most heads of those that are tried before a turn, and the first of them
pub record IsMost (image : List ℕ) (turn : ℕ) (guess : Guess) : Type 0 where
  pub suits : Suits (length image) guess.geometry.sector guess.geometry.per_slot
  pub before : turn_of guess.geometry.sector guess.geometry.per_slot < turn
  pub slots : guess.geometry.slots ≡ length image / (guess.geometry.sector * guess.geometry.per_slot)
  pub heads : guess.heads ≡ heads_by image guess.geometry.sector guess.geometry.per_slot
  pub some : 0 < guess.heads
  pub most : (sector per_slot : ℕ) → Suits (length image) sector per_slot → turn_of sector per_slot < turn → heads_by image sector per_slot ≤ guess.heads
  pub first : (sector per_slot : ℕ) → Suits (length image) sector per_slot → turn_of sector per_slot < turn_of guess.geometry.sector guess.geometry.per_slot
      → heads_by image sector per_slot < guess.heads

-- the heads of the best of those before a turn
abbrev pub heads_of : Option Guess → ℕ
heads_of None = 0
heads_of (Some guess) = guess.heads

abbrev pub IsGuessBefore : List ℕ → ℕ → Option Guess → Type 0
IsGuessBefore image turn None = NoneBefore image turn
IsGuessBefore image turn (Some guess) = IsMost image turn guess

-- the geometry of a turn, and its heads: of the slots of a turn no others suit an image
pub record IsOfTurn (image : List ℕ) (turn : ℕ) (guess : Guess) : Type 0 where
  pub suits : Suits (length image) guess.geometry.sector guess.geometry.per_slot
  pub in_turn : turn_of guess.geometry.sector guess.geometry.per_slot ≡ turn
  pub slots : guess.geometry.slots ≡ length image / (guess.geometry.sector * guess.geometry.per_slot)
  pub heads : guess.heads ≡ heads_by image guess.geometry.sector guess.geometry.per_slot
  pub only : (sector per_slot : ℕ) → Suits (length image) sector per_slot → turn_of sector per_slot ≡ turn → heads_by image sector per_slot ≡ guess.heads

-- where slots of a turn suit an image
abbrev pub IsTried : List ℕ → ℕ → Option Guess → Type 0
IsTried image turn None = (sector per_slot : ℕ) → Suits (length image) sector per_slot → ¬ (turn_of sector per_slot ≡ turn)
IsTried image turn (Some guess) = IsOfTurn image turn guess

-- behind the last turn: 16 sectors
abbrev pub last_turn : ℕ
last_turn = 17 * 256

-- the geometry that an image seems to have: none where no geometry of its length has a head
abbrev pub IsGuess : List ℕ → Option Guess → Type 0
IsGuess image guess = IsGuessBefore image last_turn guess

abbrev pub is_unknown : SlotKind → Bool
is_unknown Unknown = true
is_unknown _ = false

-- the slots of no known form
abbrev pub unknown_in : ℕ → ℕ → List ℕ → ℕ
unknown_in slot_size slots image = count_below (λ k. is_unknown (kind_at slot_size slots image k)) slots

-- what a file is to a store whose geometry has so many heads in it: one of another geometry, where that has more; none of ours where
-- there is no head and more than two slots are of no known form, which is more than lost power leaves; else the store's own
abbrev pub file_kind_by : ℕ → Option Guess → ℕ → FileKind
file_kind_by heads None unknown = if nat_lt 2 unknown then Foreign else Store
file_kind_by heads (Some guess) unknown = if nat_lt heads guess.heads then Other else Store

-- what is seen of a file: the heads in the geometry that it is looked at by, the geometry that it seems to have, and what kind of file that makes it
pub record IsFileView (slot_size slots : ℕ) (image : List ℕ) (view : FileView) : Type 0 where
  pub heads : view.heads ≡ heads_in slot_size slots image
  pub guess : IsGuess image view.guess
  pub kind : view.kind ≡ file_kind_by view.heads view.guess (unknown_in slot_size slots image)
