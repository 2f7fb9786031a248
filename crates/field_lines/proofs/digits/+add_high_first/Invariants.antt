use Rattle.std.proofs.Common.{length}
use Rattle.field_lines.proofs.digits.+add_high_first.Given as goal

abbrev pub decreases-add_high_first : goal.decreases-add_high_first
decreases-add_high_first l = length l.bytes.now
