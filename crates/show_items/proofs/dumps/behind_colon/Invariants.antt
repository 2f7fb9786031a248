use Rattle.std.proofs.Common.{◌≡◌, length}
use Rattle.show_items.specs.Dumps.{behind_colon}
use Rattle.show_items.proofs.dumps.behind_colon.Given as goal

abbrev pub invariant-loop-rest : goal.invariant-loop-rest
invariant-loop-rest l = behind_colon l.rest ≡ behind_colon l.line

abbrev pub decreases-loop-rest : goal.decreases-loop-rest
decreases-loop-rest l = length l.rest
