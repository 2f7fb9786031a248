use Rattle.std.proofs.Common.{◌≡◌, ◌++◌, length}
use Rattle.show_items.specs.Parts.{dotted}
use Rattle.show_items.proofs.parts.add_dotted.Given as goal

abbrev pub invariant-loop-text : goal.invariant-loop-text
invariant-loop-text l = l.out.items ++ dotted l.text ≡ l.initial.out.items ++ dotted l.initial.text

abbrev pub decreases-loop-text : goal.decreases-loop-text
decreases-loop-text l = length l.text
