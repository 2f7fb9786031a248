use Rattle.std.proofs.Common.{◌≡◌, ◌++◌, length, string_bytes}
use Rattle.apei_bytes.specs.Guid.{digits}
use Rattle.apei_look.proofs.digits.add_all.Given as goal

abbrev pub invariant-loop-bytes : goal.invariant-loop-bytes
invariant-loop-bytes l = string_bytes l.out ++ digits l.bytes ≡ string_bytes l.initial.out ++ digits l.initial.bytes

abbrev pub decreases-loop-bytes : goal.decreases-loop-bytes
decreases-loop-bytes l = length l.bytes
