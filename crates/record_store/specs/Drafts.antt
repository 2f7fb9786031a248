-- A draft as the plan that the definitions speak of.
use Rattle.std.specs.Prelude.{◌≡◌, ℕ, ◌-◌, ◌<◌, ◌≤◌, Bool, false, ◌==◌, if◌then◌else◌, List, [], ◌∷◌, length, take, drop, slice_index}
use Rattle.flash_model.specs.declared.geometry.Geometry.{Geometry}
use Rattle.record_model.specs.Filling as filling
use Rattle.record_model.specs.Filling.{Target}
use Rattle.flash_model.specs.Layouts.{layout_of}
use Rattle.record_model.specs.Plan as planned
use Rattle.record_model.specs.Plan.{Plan, IsPlan, target_of}
use Rattle.record_model.specs.Records.{parts_of}
use Rattle.record_store.specs.declared.draft.Draft.{Draft}
use Rattle.record_store.specs.declared.draft.Step.{Step}
use Rattle.record_store.specs.declared.draft.Stage.{Stage}
use Rattle.record_store.specs.declared.draft.Stage.TheVariants.{Fill, Gate}
use Rattle.record_store.specs.declared.draft.Step.TheVariants.{EraseFromHead, EraseFromTail, PutHead, Piece, TailMark}

-- whether the tail mark of a slot was set
abbrev pub marked_in : List ℕ → List Bool → ℕ → Bool
marked_in [] marks n = false
marked_in (slot ∷ slots) [] n = false
marked_in (slot ∷ slots) (mark ∷ marks) n = if n == slot then mark else marked_in slots marks n

abbrev pub plan_of : Draft → List ℕ → Plan
plan_of draft body = record {
  id = draft.id;
  generation = draft.generation;
  body = body;
  first = slice_index draft.slots 0;
  further = take (draft.parts - 1) (drop 1 draft.slots);
  marked = marked_in draft.slots draft.marked;
}

abbrev pub step_of : Step → filling.Step
step_of (EraseFromHead done) = filling.EraseFromHead done
step_of (EraseFromTail done) = filling.EraseFromTail done
step_of PutHead = filling.PutHead
step_of (Piece piece) = filling.Piece piece
step_of TailMark = filling.TailMark

-- what is to stand in the slot of one of its parts
abbrev pub target_in : Geometry → Draft → List ℕ → ℕ → Target
target_in geometry draft body number = target_of (layout_of geometry) (plan_of draft body) number

-- a draft for a record of this length
pub record IsDraft (geometry : Geometry) (draft : Draft) (body : List ℕ) : Type 0 where
  pub plan : IsPlan (layout_of geometry) (plan_of draft body)
  pub len : length body ≡ draft.len
  pub parts : draft.parts ≡ parts_of (geometry.slot_size - 64) (length body)
  pub some : 1 ≤ draft.parts
  pub few : draft.parts ≤ 4
  pub below : (i : ℕ) → i < draft.parts → slice_index draft.slots i < geometry.slots

abbrev pub stage_of : Stage → planned.Stage
stage_of (Fill number step) = planned.Fill number (step_of step)
stage_of Gate = planned.Gate

-- a stage in the writing of a draft
abbrev pub HasForm : Geometry → Draft → List ℕ → planned.Stage → Type 0
HasForm geometry draft body (planned.Fill number step) =
    (number < draft.parts) × filling.IsStep (layout_of geometry) (length (target_of (layout_of geometry) (plan_of draft body) number).bytes) step
HasForm geometry draft body planned.Gate = Unit {0}

abbrev pub IsStage : Geometry → Draft → List ℕ → Stage → Type 0
IsStage geometry draft body stage = HasForm geometry draft body (stage_of stage)
