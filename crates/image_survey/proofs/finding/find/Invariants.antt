use Rattle.std.proofs.Common.{ℕ, ◌<◌, List}
use Rattle.image_survey.specs.Shown.{AreShown, IsFirstOf}
use Rattle.image_survey.proofs.finding.find.Given as goal

abbrev pub invariant-loop-slot : goal.invariant-loop-slot
invariant-loop-slot l =
    (image : List ℕ) → AreShown l.geometry.slot_size l.geometry.slots image l.views
    → (k : ℕ) → k < l.slot → IsFirstOf l.geometry.slot_size l.geometry.slots image k l.id → ⊥
