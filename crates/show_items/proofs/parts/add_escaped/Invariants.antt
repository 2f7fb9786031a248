use Rattle.std.proofs.Common.{◌≡◌, ◌++◌, length}
use Rattle.field_lines.specs.Texts.{escaped_lines}
use Rattle.show_items.proofs.parts.add_escaped.Given as goal

abbrev pub invariant-loop-text : goal.invariant-loop-text
invariant-loop-text l = l.out.items ++ escaped_lines l.text ≡ l.initial.out.items ++ escaped_lines l.initial.text

abbrev pub decreases-loop-text : goal.decreases-loop-text
decreases-loop-text l = length l.text
