use Rattle.std.proofs.Common.{◌≡◌, ℕ, ◌-◌, length}
use Rattle.record_model.specs.Records.{Slot, is_live, entry_of, is_first}
use Rattle.record_slots.specs.Looks.{AreSeen, AreMarked}
use Rattle.image_survey.proofs.firsts.first_among.Given as goal

abbrev pub invariant-loop-slot : goal.invariant-loop-slot
invariant-loop-slot l = record {
  long : length l.firsts.items ≡ l.slot;
  marked : (seen : ℕ → Slot) → AreSeen seen l.geometry.slots l.looks
      → AreMarked l.geometry.slots (is_live (l.geometry.slot_size - 64) l.geometry.slots seen) l.lives
      → AreMarked l.slot (is_first (entry_of (l.geometry.slot_size - 64) l.geometry.slots seen) l.geometry.slots) l.firsts.items;
}
