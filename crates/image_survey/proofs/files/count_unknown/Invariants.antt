use Rattle.std.proofs.Common.{◌≡◌, ℕ, ◌≤◌, List}
use Rattle.record_model.specs.Records.{count_below}
use Rattle.image_survey.specs.Heads.{is_unknown}
use Rattle.image_survey.specs.Kinds.{kind_at}
use Rattle.image_survey.specs.Shown.{AreShown}
use Rattle.image_survey.proofs.files.count_unknown.Given as goal

abbrev pub invariant-loop-slot : goal.invariant-loop-slot
invariant-loop-slot l = record {
  few : l.unknown ≤ l.slot;
  counted : (image : List ℕ) → AreShown l.geometry.slot_size l.geometry.slots image l.views
      → l.unknown ≡ count_below (λ k. is_unknown (kind_at l.geometry.slot_size l.geometry.slots image k)) l.slot;
}
