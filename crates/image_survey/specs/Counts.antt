-- What all slots of an image are together.
use Rattle.std.specs.Prelude.{◌≡◌, ℕ, zero, suc, ◌+◌, Bool, true, false, List}
use Rattle.std.specs.FinMap.{len}
use Rattle.record_model.specs.Records.{slot_at, stored_in, second_copies, count_below}
use Rattle.image_survey.specs.Kinds.{kind_at}
use Rattle.image_survey.specs.declared.kinds.SlotKind.{SlotKind}
use Rattle.image_survey.specs.declared.kinds.SlotKind.TheVariants.{First, Further, SecondCopy}
use Rattle.image_survey.specs.declared.totals.Totals.{Totals}

-- no record stands in a slot that a boot finds
abbrev pub is_free : SlotKind → Bool
is_free First = false
is_free Further = false
is_free _ = true

-- the first slot of a record that a boot finds, and a second copy
abbrev pub is_record : SlotKind → Bool
is_record First = true
is_record _ = false

abbrev pub is_second_copy : SlotKind → Bool
is_second_copy SecondCopy = true
is_second_copy _ = false

-- the bytes of the record whose first slot this is
abbrev pub bytes_of : SlotKind → ℕ → ℕ
bytes_of First len = len
bytes_of _ _ = 0

-- those of the first n slots
abbrev pub bytes_among : ℕ → ℕ → List ℕ → ℕ → ℕ
bytes_among slot_size slots image zero = 0
bytes_among slot_size slots image (suc n) =
    bytes_among slot_size slots image n + bytes_of (kind_at slot_size slots image n) (slot_at slot_size image n).head.len

-- the slots in which no record stands that a boot finds, the records, the second copies, and the bytes of the records
pub record AreTotals (slot_size slots : ℕ) (image : List ℕ) (totals : Totals) : Type 0 where
  pub free : totals.free ≡ count_below (λ k. is_free (kind_at slot_size slots image k)) slots
  pub records : totals.records ≡ len (stored_in slot_size slots image)
  pub second_copies : totals.second_copies ≡ second_copies slot_size slots image
  pub bytes : totals.bytes ≡ bytes_among slot_size slots image slots
