use Rattle.std.proofs.Common.{ℕ, ◌*◌, ◌^◌, ◌≤◌, List}
use Rattle.image_survey.specs.Shown.{AreShown}
use Rattle.image_survey.proofs.CountLemmas.{Counted}
use Rattle.image_survey.proofs.totals.count_slots.Given as goal

abbrev pub invariant-loop-slot : goal.invariant-loop-slot
invariant-loop-slot l = record {
  free : l.free ≤ l.slot;
  records : l.records ≤ l.slot;
  second_copies : l.second_copies ≤ l.slot;
  bytes : l.bytes ≤ l.slot * 2 ^ 32;
  counted : (image : List ℕ) → AreShown l.geometry.slot_size l.geometry.slots image l.views
      → Counted l.geometry.slot_size l.geometry.slots image l.slot l.free l.records l.second_copies l.bytes;
}
