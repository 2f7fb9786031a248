use Rattle.std.proofs.Common.{◌≡◌, ℕ, ◌<◌, length, get_or}
use Rattle.image_survey.specs.Shown.{IsShown}
use Rattle.image_survey.specs.declared.survey.SlotView.{SlotView}
use Rattle.image_survey.proofs.survey.view_slots.Given as goal

abbrev pub invariant-loop-slot : goal.invariant-loop-slot
invariant-loop-slot l = record {
  long : length l.views.items ≡ l.slot;
  shown : (k : ℕ) (d : SlotView) → k < l.slot → IsShown l.geometry.slot_size l.geometry.slots l.image k (get_or l.views.items k d);
}
