-- What is shown of an image's slots.
use Rattle.std.specs.Prelude.{◌≡◌, ℕ, ◌<◌, List, slice_index_or}
use Rattle.record_model.specs.Records.{slot_at}
use Rattle.record_slots.specs.Looks.{IsSeen}
use Rattle.image_survey.specs.Kinds.{kind_at}
use Rattle.image_survey.specs.declared.kinds.SlotKind.TheVariants.{First}
use Rattle.image_survey.specs.declared.survey.SlotView.{SlotView}

-- what slot k is, and its head and tail mark
pub record IsShown (slot_size slots : ℕ) (image : List ℕ) (k : ℕ) (view : SlotView) : Type 0 where
  pub kind : view.kind ≡ kind_at slot_size slots image k
  pub seen : IsSeen (slot_at slot_size image k) view.look

-- of each slot, in their order
abbrev pub AreShown : ℕ → ℕ → List ℕ → List SlotView → Type 0
AreShown slot_size slots image views = (k : ℕ) (d : SlotView) → k < slots → IsShown slot_size slots image k (slice_index_or views k d)

-- slot k is the first slot of the record of an identifier
pub record IsFirstOf (slot_size slots : ℕ) (image : List ℕ) (k id : ℕ) : Type 0 where
  pub first : kind_at slot_size slots image k ≡ First
  pub of_id : (slot_at slot_size image k).head.id ≡ id
