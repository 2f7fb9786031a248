use Rattle.std.proofs.Common.{◌-◌, List, ◌++◌}
use Rattle.show_findings.specs.Places.{seen_number}
use Rattle.show_items.specs.Records.{ArePartsFrom}
use Rattle.show_items.specs.declared.parts.Part.{Part}
use Rattle.show_items.proofs.parts.parts_of_sections.Given as goal

-- the parts of the sections that are left, behind those that were found, are all
abbrev pub invariant-loop-index : goal.invariant-loop-index
invariant-loop-index l =
    (more : List Part) → ArePartsFrom l.table l.bytes (seen_number l.bytes 10 2 - l.index) l.index more
    → ArePartsFrom l.table l.bytes (seen_number l.bytes 10 2) 0 (l.parts.items ++ more)
