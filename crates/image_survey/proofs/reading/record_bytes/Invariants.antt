use Rattle.std.proofs.Common.{◌≡◌, ◌-◌, ◌∷◌, take}
use Rattle.record_model.specs.Records.{slot_at, parts_joined, parts_of}
use Rattle.image_survey.proofs.reading.record_bytes.Given as goal

abbrev pub invariant-loop-number : goal.invariant-loop-number
invariant-loop-number l =
    l.bytes.items ≡ parts_joined (l.geometry.slot_size - 64) l.head.len (slot_at l.geometry.slot_size l.image) 0
    (take l.number (l.slot ∷ take (parts_of (l.geometry.slot_size - 64) l.head.len - 1) l.head.next))
