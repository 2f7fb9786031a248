use Rattle.std.proofs.Common.{◌≡◌, ℕ, ◌≤◌, ◌-◌}
use Rattle.record_model.specs.Records.{count_below, slot_at}
use Rattle.image_survey.specs.Heads.{has_head}
use Rattle.image_survey.proofs.heads.count_heads.Given as goal

abbrev pub invariant-loop-slot : goal.invariant-loop-slot
invariant-loop-slot l = record {
  few : l.heads ≤ l.slot;
  counted : l.heads ≡ count_below (λ k. has_head (l.geometry.slot_size - 64) l.geometry.slots (slot_at l.geometry.slot_size l.image k)) l.slot;
}
