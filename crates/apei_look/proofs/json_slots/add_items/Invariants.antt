use Rattle.std.proofs.Common.{◌≡◌, ◌++◌, string_bytes}
use Rattle.apei_look.specs.FileObjects.{slot_item}
use Rattle.apei_look.specs.SlotTexts.{of_slots}
use Rattle.apei_look.proofs.json_slots.add_items.Given as goal

abbrev pub invariant-loop-slot : goal.invariant-loop-slot
invariant-loop-slot l =
    string_bytes l.out ≡ string_bytes l.initial.out ++ of_slots (slot_item l.image.is_medium l.image.geometry.now l.image.bytes.now) l.slot
