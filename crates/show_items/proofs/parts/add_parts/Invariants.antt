use Rattle.std.proofs.Common.{◌≡◌, ℕ, List, Option, drop}
use Rattle.show_items.specs.Parts.{part_groups}
use Rattle.show_items.specs.Sheets.{AddsGroups, GroupsBegun}
use Rattle.show_items.specs.declared.sheet.Sheet.{Sheet}
use Rattle.show_items.proofs.parts.add_parts.Given as goal

-- whatever follows is part of the whole, and so is a beginning of what follows, and each page could be written
abbrev pub invariant-loop-part : goal.invariant-loop-part
invariant-loop-part g l = record {
  stop : g.P.Pages.failures l.pages ≡ g.P.Pages.failures l.initial.pages;
  whole : (last : Sheet) (after : Option (List ℕ)) → AddsGroups (part_groups (drop l.part-index l.parts)) (g.P.Pages.written l.pages) after l.sheet last
      → AddsGroups (part_groups l.parts) (g.P.Pages.written l.initial.pages) after l.initial.sheet last;
  stopped : (after : Option (List ℕ)) → GroupsBegun (part_groups (drop l.part-index l.parts)) (g.P.Pages.written l.pages) after l.sheet
      → GroupsBegun (part_groups l.parts) (g.P.Pages.written l.initial.pages) after l.initial.sheet;
}
