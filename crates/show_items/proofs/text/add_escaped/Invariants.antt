use Rattle.std.proofs.Common.{◌≡◌, ◌++◌, length}
use Rattle.show_items.specs.Texts.{all_escaped}
use Rattle.show_items.proofs.text.add_escaped.Given as goal

abbrev pub invariant-loop-text : goal.invariant-loop-text
invariant-loop-text l = l.out.items ++ all_escaped l.text ≡ l.initial.out.items ++ all_escaped l.initial.text

abbrev pub decreases-loop-text : goal.decreases-loop-text
decreases-loop-text l = length l.text
