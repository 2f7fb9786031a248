use Rattle.std.proofs.Common.{◌≡◌, ℕ, ◌-◌, false}
use Rattle.record_model.specs.Records.{Slot, entry_of, is_first, is_taken}
use Rattle.record_slots.specs.Listed.{first_records}
use Rattle.record_slots.specs.Looks.{AreSeen, AreMarked}
use Rattle.image_survey.proofs.further.is_taken.Given as goal

abbrev pub invariant-loop-first : goal.invariant-loop-first
invariant-loop-first l =
    (seen : ℕ → Slot) → AreSeen seen l.geometry.slots l.looks
    → AreMarked l.geometry.slots (is_first (entry_of (l.geometry.slot_size - 64) l.geometry.slots seen) l.geometry.slots) l.firsts
    → is_taken (first_records (entry_of (l.geometry.slot_size - 64) l.geometry.slots seen) l.geometry.slots) l.first l.slot ≡ false
