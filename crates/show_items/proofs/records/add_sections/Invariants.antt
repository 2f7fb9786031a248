use Rattle.std.proofs.Common.{◌≡◌, ◌-◌, ℕ, List, Option}
use Rattle.show_findings.specs.Places.{seen_number}
use Rattle.show_items.specs.Records.{room_of, section_groups}
use Rattle.show_items.specs.Sheets.{AddsGroups, GroupsBegun}
use Rattle.show_items.specs.declared.sheet.Sheet.{Sheet}
use Rattle.show_items.proofs.records.add_sections.Given as goal

-- whatever follows is part of the whole, and so is a beginning of what follows
abbrev pub invariant-loop-index : goal.invariant-loop-index
invariant-loop-index g l = record {
  stop : g.P.Pages.failures l.pages ≡ g.P.Pages.failures l.initial.pages;
  whole : (last : Sheet) (written : Option (List ℕ))
      → AddsGroups (section_groups l.bytes (seen_number l.bytes 10 2 - l.index) l.index l.room) (g.P.Pages.written l.pages) written l.sheet last
      → AddsGroups (section_groups l.bytes (seen_number l.bytes 10 2) 0 (room_of l.bytes)) (g.P.Pages.written l.initial.pages) written l.initial.sheet last;
  stopped : (written : Option (List ℕ))
      → GroupsBegun (section_groups l.bytes (seen_number l.bytes 10 2 - l.index) l.index l.room) (g.P.Pages.written l.pages) written l.sheet
      → GroupsBegun (section_groups l.bytes (seen_number l.bytes 10 2) 0 (room_of l.bytes)) (g.P.Pages.written l.initial.pages) written l.initial.sheet;
}
