use Rattle.std.proofs.Common.{◌≡◌, ◌-◌}
use Rattle.show_findings.specs.Places.{seen_number}
use Rattle.show_items.specs.Refusals.{refused_entries}
use Rattle.show_items.proofs.refusals.has_refused_entry.Given as goal

-- none was refused so far
abbrev pub invariant-loop-index : goal.invariant-loop-index
invariant-loop-index l =
    refused_entries l.bytes (seen_number l.bytes 44 4 - l.index) l.index ≡ refused_entries l.bytes (seen_number l.bytes 44 4) 0
