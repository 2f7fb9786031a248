use Rattle.std.proofs.Common.{◌≡◌, ◌++◌, length}
use Rattle.field_lines.specs.Texts.{escaped_text}
use Rattle.field_lines.proofs.json.add_escaped_text.Given as goal

abbrev pub invariant-loop-bytes : goal.invariant-loop-bytes
invariant-loop-bytes l = l.out.items ++ escaped_text l.bytes ≡ l.initial.out.items ++ escaped_text l.initial.bytes

abbrev pub decreases-loop-bytes : goal.decreases-loop-bytes
decreases-loop-bytes l = length l.bytes
