use Rattle.std.proofs.Common.{◌≡◌, ◌++◌, length}
use Rattle.field_lines.specs.Texts.{lines_text}
use Rattle.field_lines.proofs.digits.add_lines.Given as goal

abbrev pub invariant-loop-bytes : goal.invariant-loop-bytes
invariant-loop-bytes l = l.out.items ++ lines_text l.bytes ≡ l.initial.out.items ++ lines_text l.initial.bytes

abbrev pub decreases-loop-bytes : goal.decreases-loop-bytes
decreases-loop-bytes l = length l.bytes
