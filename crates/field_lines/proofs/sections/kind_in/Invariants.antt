use Rattle.std.proofs.Common.{◌≡◌, length, map}
use Rattle.field_lines.specs.Sections.{kind_in, kind_of}
use Rattle.field_lines.proofs.sections.kind_in.Given as goal

abbrev pub invariant-loop-named : goal.invariant-loop-named
invariant-loop-named l = kind_in (map kind_of l.named) l.guid ≡ kind_in (map kind_of l.initial.named) l.guid

abbrev pub decreases-loop-named : goal.decreases-loop-named
decreases-loop-named l = length l.named
