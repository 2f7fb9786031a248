use Rattle.std.proofs.Common.{◌≡◌, ◌≤◌, length}
use Rattle.show_items.specs.Dumps.{behind_line}
use Rattle.show_items.proofs.dumps.behind_line.Given as goal

abbrev pub invariant-loop-rest : goal.invariant-loop-rest
invariant-loop-rest l = record {
  same : behind_line l.rest ≡ behind_line l.text;
  within : length l.rest ≤ length l.text;
}

abbrev pub decreases-loop-rest : goal.decreases-loop-rest
decreases-loop-rest l = length l.rest
