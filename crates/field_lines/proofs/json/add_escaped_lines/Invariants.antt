use Rattle.std.proofs.Common.{◌≡◌, ◌++◌, length}
use Rattle.field_lines.specs.Texts.{escaped_lines}
use Rattle.field_lines.proofs.json.add_escaped_lines.Given as goal

abbrev pub invariant-loop-bytes : goal.invariant-loop-bytes
invariant-loop-bytes l = l.out.items ++ escaped_lines l.bytes ≡ l.initial.out.items ++ escaped_lines l.initial.bytes

abbrev pub decreases-loop-bytes : goal.decreases-loop-bytes
decreases-loop-bytes l = length l.bytes
