-- What power lost in each change of a write, a replacement and a clear leaves on a flash.
use Rattle.std.proofs.Common.{◌≡◌, ◌⊎◌, ℕ, ◌+◌, ◌-◌, ◌*◌, ◌<◌, ◌≤◌, true, length, Option, Some, ap, inl, inr}
use Rattle.std.specs.FinMap.{insert, remove}
use Rattle.base_model.specs.Flash.{Told, Leaves, MayChange}
use Rattle.base_model.specs.Layout.{Layout}
use Rattle.record_model.specs.Records.{slot_at, is_up, Entry, entry_at, selected, stored_in, IsChosen, OnlyFirstUp}
use Rattle.record_model.specs.Filling.{Step, IsStep, place_of, len_of}
use Rattle.record_model.specs.Plan.{Plan, IsPlan, Fill, Gate, target_of, KnowsPlan, StandsAtStage}
use Rattle.base_model.proofs.CrashLemmas.{Leaves-change}
use Rattle.record_model.proofs.PlanLemmas.{StaysKnown, gate_torn}
use Rattle.record_model.proofs.StepLemmas.{step_torn}
use Rattle.record_model.proofs.KillLemmas.{scan_kill, clear_kill}

-- a step of filling keeps the map and what is known
pub step_leaves : (layout : Layout) (plan : Plan) (number : ℕ) (step : Step) (old new : Told) → IsPlan layout plan → number ≤ length plan.further
    → IsStep layout (length (target_of layout plan number).bytes) step → KnowsPlan layout plan old.image → StandsAtStage layout plan old.image (Fill number step)
    → MayChange (place_of layout number (target_of layout plan number) step) (len_of layout (target_of layout plan number) step) old new
    → Leaves old new (StaysKnown layout plan number old.image)
step_leaves layout plan number step old new is h form knows stands change =
    Leaves-change (place_of layout number (target_of layout plan number) step) (len_of layout (target_of layout plan number) step) old new (StaysKnown layout plan number old.image) change
    (λ image same. step_torn layout plan number step old.image image is h form knows stands same)

-- the gate keeps the map or adds the record
pub gate_leaves : (layout : Layout) (plan : Plan) (old new : Told) → IsPlan layout plan → KnowsPlan layout plan old.image → StandsAtStage layout plan old.image Gate
    → MayChange (plan.first * layout.slot_size) 1 old new
    → Leaves old new (λ image. (stored_in layout.slot_size layout.slots image ≡ stored_in layout.slot_size layout.slots old.image)
    ⊎ (stored_in layout.slot_size layout.slots image ≡ insert (stored_in layout.slot_size layout.slots old.image) plan.id (plan.body, plan.generation)))
gate_leaves layout plan old new is knows stands change =
    Leaves-change (plan.first * layout.slot_size) 1 old new
    (λ image. (stored_in layout.slot_size layout.slots image ≡ stored_in layout.slot_size layout.slots old.image)
    ⊎ (stored_in layout.slot_size layout.slots image ≡ insert (stored_in layout.slot_size layout.slots old.image) plan.id (plan.body, plan.generation))) change
    (λ image same. elim (gate_torn layout plan old.image image is knows stands same) [ inl opened ↦ inr opened.stored | inr kept ↦ inl kept.0 ])

-- the end of an old copy keeps the map
pub old_copy_leaves : (size slots j : ℕ) (old new : Told) → 64 ≤ size → j < slots → is_up (size - 64) slots (slot_at size old.image j) ≡ true
    → ((e : Entry) → IsChosen (entry_at size slots old.image) slots j e → ⊥) → MayChange (j * size + 1) 1 old new
    → Leaves old new (λ image. stored_in size slots image ≡ stored_in size slots old.image)
old_copy_leaves size slots j old new some within up not_first change =
    Leaves-change (j * size + 1) 1 old new (λ image. stored_in size slots image ≡ stored_in size slots old.image) change
    (λ image same. scan_kill size slots j old.image image some within up not_first same)

-- a clear keeps the map or takes the record away
pub clear_leaves : (size slots j : ℕ) (e : Entry) (old new : Told) → 64 ≤ size → OnlyFirstUp size slots old.image → entry_at size slots old.image j ≡ Some e → MayChange (j * size + 1) 1 old new
    → Leaves old new (λ image. (stored_in size slots image ≡ stored_in size slots old.image) ⊎ (stored_in size slots image ≡ remove (stored_in size slots old.image) e.id))
unfolding stored_in
clear_leaves size slots j e old new some only was change =
    Leaves-change (j * size + 1) 1 old new
    (λ image. (selected (entry_at size slots image) slots ≡ selected (entry_at size slots old.image) slots) ⊎ (selected (entry_at size slots image) slots
    ≡ remove (selected (entry_at size slots old.image) slots) e.id)) change
    (λ image same. elim (clear_kill size slots j old.image image e some only was same) [
      | inl stays ↦ inl (ap (λ (entry : ℕ → Option Entry). selected entry slots) stays)
      | inr gone ↦ inr gone.1
    ])
