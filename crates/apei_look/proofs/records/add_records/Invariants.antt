use Rattle.std.proofs.Common.{string_bytes}
use Rattle.apei_look.specs.Texts.{GrowsBy}
use Rattle.apei_look.specs.Records.{AreRecords}
use Rattle.apei_look.proofs.records.add_records.Given as goal

abbrev pub invariant-loop-slot : goal.invariant-loop-slot
invariant-loop-slot l =
    GrowsBy (AreRecords l.image.geometry.now.slot_size l.image.geometry.now.slots l.image.bytes.now l.slot) (string_bytes l.initial.out) (string_bytes l.out)
