use Rattle.std.proofs.Common.{◌≡◌, ℕ, ◌-◌, false}
use Rattle.record_model.specs.Records.{Slot, is_live, entry_of, record_of, is_behind}
use Rattle.record_slots.specs.Looks.{AreSeen, AreMarked}
use Rattle.image_survey.proofs.firsts.is_first.Given as goal

abbrev pub invariant-loop-at : goal.invariant-loop-at
invariant-loop-at l =
    (seen : ℕ → Slot) → AreSeen seen l.geometry.slots l.looks
    → AreMarked l.geometry.slots (is_live (l.geometry.slot_size - 64) l.geometry.slots seen) l.lives
    → is_behind (entry_of (l.geometry.slot_size - 64) l.geometry.slots seen) l.at (record_of (l.geometry.slot_size - 64) seen l.slot) l.slot ≡ false
