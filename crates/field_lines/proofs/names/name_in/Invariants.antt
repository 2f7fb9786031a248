use Rattle.std.proofs.Common.{◌≡◌, length, map}
use Rattle.field_lines.specs.Names.{name_in}
use Rattle.field_lines.specs.Code.{name_of}
use Rattle.field_lines.proofs.names.name_in.Given as goal

abbrev pub invariant-loop-names : goal.invariant-loop-names
invariant-loop-names l = name_in (map name_of l.names) l.number ≡ name_in (map name_of l.initial.names) l.number

abbrev pub decreases-loop-names : goal.decreases-loop-names
decreases-loop-names l = length l.names
