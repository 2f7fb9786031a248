-- A record that is being written into several slots: which slot is filled, and what is known of the others.
use Rattle.std.specs.Prelude.{◌≡◌, ℕ, zero, suc, ◌+◌, ◌-◌, ◌*◌, ◌^◌, ◌<◌, ◌==◌, nat_lt, if◌then◌else◌, Bool, true, false, List, [], ◌∷◌, ◌++◌, length, take, drop, slice_index, Some}
use Rattle.std.specs.List.{list_any}
use Rattle.base_model.specs.Layout.{Layout}
use Rattle.record_model.specs.Records.{slot_at, is_reserved, Entry, entry_at, is_taken, OnlyFirstUp, HaveParts, part_len, AreDistinct, NamesAll, tail_mark}
use Rattle.record_model.specs.RecordMap.{pieces_of}
use Rattle.record_model.specs.Filling.{Target, first_target, part_target, Step, EraseFromHead, EraseFromTail, PutHead, Piece, TailMark, StandsAt, IsFilled}

-- a record, the slots that it gets, and in which of these the tail mark was set when the write began
pub record Plan : Type 0 where
  pub id : ℕ
  pub generation : ℕ
  pub body : List ℕ
  pub first : ℕ
  pub further : List ℕ
  pub marked : ℕ → Bool

-- a plan for as many distinct slots as the record has parts
pub record IsPlan (layout : Layout) (plan : Plan) : Type 0 where
  pub names : NamesAll (layout.slot_size - 64) layout.slots plan.further plan.body
  pub allowed : is_reserved plan.id ≡ false
  pub distinct : AreDistinct (plan.first ∷ plan.further)
  pub id : plan.id < 2 ^ 64
  pub generation : plan.generation < 2 ^ 32

-- the further slots are filled one after another, then the first one, and then its gate is opened
pub data Stage : Type 0 where
  Fill : (number : ℕ) (step : Step) → Stage
  Gate : Stage

-- what is to stand in the slot of a part
abbrev pub target_of : Layout → Plan → ℕ → Target
target_of layout plan zero = first_target (layout.slot_size - 64) plan.first plan.id plan.generation plan.further plan.body
target_of layout plan (suc n) = part_target (layout.slot_size - 64) plan.first plan.id plan.generation plan.body (suc n) (slice_index plan.further n)

-- the further slots that are filled while that of a part is being filled, and the slots that are to be filled then
abbrev pub further_done : ℕ → List ℕ → List ℕ
further_done zero further = further
further_done (suc n) further = take n further

abbrev pub slots_ahead : ℕ → ℕ → List ℕ → List ℕ
slots_ahead zero first further = []
slots_ahead (suc n) first further = drop (suc n) further ++ first ∷ []

-- the parts of these slots stand
abbrev pub PartsStand : Layout → Plan → List ℕ → List ℕ → Type 0
PartsStand layout plan image slots =
    HaveParts (layout.slot_size - 64) plan.first plan.id plan.generation plan.further plan.body (slot_at layout.slot_size image) 1 slots

-- what is known of the image and the plan at every stage
pub record KnowsPlan (layout : Layout) (plan : Plan) (image : List ℕ) : Type 0 where
  pub only : OnlyFirstUp layout.slot_size layout.slots image
  pub free : (n : ℕ) → list_any (λ m. n == m) (plan.first ∷ plan.further) ≡ true
      → (n < layout.slots) × (is_taken (entry_at layout.slot_size layout.slots image) layout.slots n ≡ false)
  pub newest : (k : ℕ) (e : Entry) → k < layout.slots → entry_at layout.slot_size layout.slots image k ≡ Some e → e.id ≡ plan.id → e.generation < plan.generation

-- what stands at a stage
abbrev pub StandsAtStage : Layout → Plan → List ℕ → Stage → Type 0
StandsAtStage layout plan image (Fill number step) =
    PartsStand layout plan image (further_done number plan.further)
    × StandsAt layout (target_of layout plan number) image step
    × ((n : ℕ) → list_any (λ m. n == m) (slots_ahead number plan.first plan.further) ≡ true → ((slot_at layout.slot_size image n).tail == tail_mark) ≡ plan.marked n)
StandsAtStage layout plan image Gate =
    PartsStand layout plan image plan.further × IsFilled layout.slot_size (target_of layout plan 0) image

-- the first change of a slot, by whether its tail mark was set
abbrev pub first_step : Bool → Step
first_step true = EraseFromTail 0
first_step false = EraseFromHead 0

-- the stage after that of a slot that is filled: the next further slot, the first slot, or the gate
abbrev pub after_part : Plan → ℕ → Stage
after_part plan zero = Gate
after_part plan (suc n) =
    if nat_lt (suc n) (length plan.further) then Fill (suc (suc n)) (first_step (plan.marked (slice_index plan.further (suc n))))
    else Fill 0 (first_step (plan.marked plan.first))

-- the stage after a change
abbrev pub stage_after : Layout → Plan → ℕ → Step → Stage
stage_after layout plan number (EraseFromHead done) =
    if nat_lt (done + 1) layout.per_slot then Fill number (EraseFromHead (done + 1)) else Fill number PutHead
stage_after layout plan number (EraseFromTail done) =
    if nat_lt (done + 1) layout.per_slot then Fill number (EraseFromTail (done + 1)) else Fill number PutHead
stage_after layout plan number PutHead = Fill number (Piece 0)
stage_after layout plan number (Piece piece) =
    if nat_lt (256 * (piece + 1)) (length (target_of layout plan number).bytes) then Fill number (Piece (piece + 1)) else Fill number TailMark
stage_after layout plan number TailMark = after_part plan number

-- the changes that are made in a slot before a step
abbrev pub made_in_slot : ℕ → ℕ → Step → ℕ
made_in_slot per_slot len (EraseFromHead done) = done
made_in_slot per_slot len (EraseFromTail done) = done
made_in_slot per_slot len PutHead = per_slot
made_in_slot per_slot len (Piece piece) = per_slot + 1 + piece
made_in_slot per_slot len TailMark = per_slot + 1 + pieces_of len

-- those that fill the first n further slots
unfoldable pub made_in_further : ℕ → ℕ → ℕ → ℕ → ℕ
made_in_further per_slot room size zero = 0
made_in_further per_slot room size (suc n) = made_in_further per_slot room size n + (per_slot + 2 + pieces_of (part_len room size (suc n)))

-- the changes that are made before a stage
abbrev pub made_at : Layout → Plan → Stage → ℕ
made_at layout plan (Fill zero step) =
    made_in_further layout.per_slot (layout.slot_size - 64) (length plan.body) (length plan.further)
    + made_in_slot layout.per_slot (part_len (layout.slot_size - 64) (length plan.body) 0) step
made_at layout plan (Fill (suc n) step) =
    made_in_further layout.per_slot (layout.slot_size - 64) (length plan.body) n
    + made_in_slot layout.per_slot (part_len (layout.slot_size - 64) (length plan.body) (suc n)) step
made_at layout plan Gate =
    made_in_further layout.per_slot (layout.slot_size - 64) (length plan.body) (length plan.further)
    + (layout.per_slot + 2 + pieces_of (part_len (layout.slot_size - 64) (length plan.body) 0))
