use Rattle.std.proofs.Common.{◌≡◌, ◌++◌, length, map}
use Rattle.field_lines.specs.Names.{flag_words}
use Rattle.field_lines.specs.Code.{name_of}
use Rattle.field_lines.proofs.names.add_flags.Given as goal

abbrev pub invariant-loop-names : goal.invariant-loop-names
invariant-loop-names l = l.out.items ++ flag_words (map name_of l.names) l.number ≡ l.initial.out.items ++ flag_words (map name_of l.initial.names) l.number

abbrev pub decreases-loop-names : goal.decreases-loop-names
decreases-loop-names l = length l.names
