-- What a slot of an image is.
use Rattle.std.specs.Prelude.{ℕ, ◌-◌, ◌*◌, Bool, ◌==◌, ◌&&◌, if◌then◌else◌, List}
use Rattle.std.specs.List.{list_all}
use Rattle.base_model.specs.Bytes.{part}
use Rattle.record_model.specs.Records.{Head, slot_at, is_up, entry_at, is_first, is_taken, gate_open, gate_closed, gate_further, not_killed, tail_mark}
use Rattle.record_slots.specs.Listed.{first_records}
use Rattle.image_survey.specs.declared.kinds.SlotKind.{SlotKind}
use Rattle.image_survey.specs.declared.kinds.SlotKind.TheVariants.{First, Further, SecondCopy, Orphan, Filling, Killed, Erased, Unknown}

-- a slot that no record has and that is not erased, by its marks: a first slot that was killed, a whole further slot, or one
-- that is being filled or erased
abbrev pub kind_by_marks : Head → ℕ → SlotKind
kind_by_marks head tail =
    if head.gate == gate_open then (if head.kill == not_killed then Unknown else Killed)
    else if head.gate == gate_further && head.format == 3 then (if tail == tail_mark then Orphan else Filling)
    else if head.gate == gate_closed then Filling
    else Unknown

abbrev pub kind_by : Bool → Bool → Bool → Bool → Head → ℕ → SlotKind
kind_by first up taken erased head tail =
    if first then First
    else if up then SecondCopy
    else if taken then Further
    else if erased then Erased
    else kind_by_marks head tail

-- each byte of a slot is 0xFF
unfoldable pub is_erased : ℕ → List ℕ → ℕ → Bool
is_erased slot_size image k = list_all (λ byte. byte == 0xFF) (part image (k * slot_size) slot_size)

-- what slot k is: the first slot of its identifier's record, another upright slot, a slot of a record that a boot finds,
-- erased, or what its marks say
unfoldable pub kind_at : ℕ → ℕ → List ℕ → ℕ → SlotKind
kind_at slot_size slots image k =
    kind_by (is_first (entry_at slot_size slots image) slots k) (is_up (slot_size - 64) slots (slot_at slot_size image k))
    (is_taken (first_records (entry_at slot_size slots image) slots) slots k) (is_erased slot_size image k)
    (slot_at slot_size image k).head (slot_at slot_size image k).tail
