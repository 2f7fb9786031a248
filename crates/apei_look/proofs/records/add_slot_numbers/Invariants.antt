use Rattle.std.proofs.Common.{◌≡◌, ◌++◌, length, string_bytes}
use Rattle.apei_look.specs.Texts.{slot_numbers}
use Rattle.apei_look.proofs.records.add_slot_numbers.Given as goal

abbrev pub invariant-loop-slots : goal.invariant-loop-slots
invariant-loop-slots l = string_bytes l.out ++ slot_numbers l.mark l.slots ≡ string_bytes l.initial.out ++ slot_numbers l.mark l.initial.slots

abbrev pub decreases-loop-slots : goal.decreases-loop-slots
decreases-loop-slots l = length l.slots
