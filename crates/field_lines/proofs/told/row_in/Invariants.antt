use Rattle.std.proofs.Common.{◌≡◌, length, map}
use Rattle.field_lines.specs.Told.{row_in}
use Rattle.field_lines.specs.Code.{field_of}
use Rattle.field_lines.proofs.told.row_in.Given as goal

abbrev pub invariant-loop-rows : goal.invariant-loop-rows
invariant-loop-rows l = row_in l.valid l.len l.name (map field_of l.rows) ≡ row_in l.valid l.len l.name (map field_of l.initial.rows)

abbrev pub decreases-loop-rows : goal.decreases-loop-rows
decreases-loop-rows l = length l.rows
