use Rattle.std.proofs.Common.{◌≡◌, length, map, IsTrue}
use Rattle.field_lines.specs.Sources.{structure_in, all_sound, source_of}
use Rattle.field_lines.proofs.sources.layout_in.Given as goal

abbrev pub invariant-loop-sources : goal.invariant-loop-sources
invariant-loop-sources l =
    (structure_in (map source_of l.sources) l.kind ≡ structure_in (map source_of l.initial.sources) l.kind)
    × IsTrue (all_sound (map source_of l.sources))

abbrev pub decreases-loop-sources : goal.decreases-loop-sources
decreases-loop-sources l = length l.sources
