use Rattle.std.proofs.Common.{◌≡◌, ℕ, ◌-◌, length}
use Rattle.record_model.specs.Records.{Slot, is_live}
use Rattle.record_slots.specs.Looks.{AreSeen, AreMarked}
use Rattle.image_survey.proofs.lives.live_slots.Given as goal

abbrev pub invariant-loop-slot : goal.invariant-loop-slot
invariant-loop-slot l = record {
  long : length l.lives.items ≡ l.slot;
  marked : (seen : ℕ → Slot) → AreSeen seen l.geometry.slots l.looks → AreMarked l.slot (is_live (l.geometry.slot_size - 64) l.geometry.slots seen) l.lives.items;
}
