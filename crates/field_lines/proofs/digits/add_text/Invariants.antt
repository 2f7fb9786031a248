use Rattle.std.proofs.Common.{◌≡◌, ◌++◌, length}
use Rattle.field_lines.specs.Texts.{text_of}
use Rattle.field_lines.proofs.digits.add_text.Given as goal

abbrev pub invariant-loop-bytes : goal.invariant-loop-bytes
invariant-loop-bytes l = l.out.items ++ text_of l.bytes ≡ l.initial.out.items ++ text_of l.initial.bytes

abbrev pub decreases-loop-bytes : goal.decreases-loop-bytes
decreases-loop-bytes l = length l.bytes
