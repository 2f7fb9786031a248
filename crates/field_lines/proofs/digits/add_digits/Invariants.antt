use Rattle.std.proofs.Common.{◌≡◌, ◌++◌, length}
use Rattle.apei_bytes.specs.Guid.{digits}
use Rattle.field_lines.proofs.digits.add_digits.Given as goal

abbrev pub invariant-loop-bytes : goal.invariant-loop-bytes
invariant-loop-bytes l = l.out.items ++ digits l.bytes ≡ l.initial.out.items ++ digits l.initial.bytes

abbrev pub decreases-loop-bytes : goal.decreases-loop-bytes
decreases-loop-bytes l = length l.bytes
