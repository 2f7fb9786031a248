use Rattle.std.proofs.Common.{◌≡◌, ◌-◌, ◌++◌}
use Rattle.show_items.specs.Dumps.{pairs}
use Rattle.show_items.proofs.dumps.add_pairs.Given as goal

abbrev pub invariant-loop-count : goal.invariant-loop-count
invariant-loop-count l = l.table.items ++ pairs (l.most - l._count) l.rest ≡ l.initial.table.items ++ pairs l.most l.text
