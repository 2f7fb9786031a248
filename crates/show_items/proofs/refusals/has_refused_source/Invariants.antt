use Rattle.std.proofs.Common.{◌≡◌, ◌-◌}
use Rattle.show_findings.specs.Places.{seen_number}
use Rattle.show_items.specs.Refusals.{refused_sources}
use Rattle.show_items.proofs.refusals.has_refused_source.Given as goal

-- none was refused so far
abbrev pub invariant-loop-index : goal.invariant-loop-index
invariant-loop-index l =
    refused_sources l.bytes (seen_number l.bytes 36 4 - l.index) l.index l.at ≡ refused_sources l.bytes (seen_number l.bytes 36 4) 0 40
