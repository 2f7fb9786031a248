use Rattle.std.proofs.Common.{◌≡◌, ◌++◌, string_bytes}
use Rattle.apei_look.specs.SlotTexts.{of_slots, slot_letter}
use Rattle.apei_look.proofs.picture.add_letters.Given as goal

abbrev pub invariant-loop-slot : goal.invariant-loop-slot
invariant-loop-slot l =
    string_bytes l.out
    ≡ string_bytes l.initial.out ++ of_slots (slot_letter l.image.geometry.now.slot_size l.image.geometry.now.slots l.image.bytes.now) l.slot
