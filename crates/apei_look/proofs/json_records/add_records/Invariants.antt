use Rattle.std.proofs.Common.{string_bytes}
use Rattle.apei_look.proofs.ObjectLemmas.{HasObjects}
use Rattle.apei_look.proofs.json_records.add_records.Given as goal

abbrev pub invariant-loop-slot : goal.invariant-loop-slot
invariant-loop-slot l =
    HasObjects l.image.geometry.now.slot_size l.image.geometry.now.slots l.image.bytes.now l.slot l.is_first
    (string_bytes l.initial.out) (string_bytes l.out)
