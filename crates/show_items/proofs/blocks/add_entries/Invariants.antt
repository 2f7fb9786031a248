use Rattle.std.proofs.Common.{◌≡◌, ◌-◌, ◌≤◌, ℕ, List, Option, length}
use Rattle.show_items.specs.Blocks.{entry_groups}
use Rattle.show_items.specs.Sheets.{AddsGroups, GroupsBegun}
use Rattle.show_items.specs.declared.sheet.Sheet.{Sheet}
use Rattle.show_items.proofs.blocks.add_entries.Given as goal

-- whatever follows is part of the whole, and so is a beginning of what follows
abbrev pub invariant-loop-entry : goal.invariant-loop-entry
invariant-loop-entry g l = record {
  below : l.index ≤ l.at;
  stop : g.P.Pages.failures l.pages ≡ g.P.Pages.failures l.initial.pages;
  whole : (last : Sheet) (written : Option (List ℕ))
      → AddsGroups (entry_groups l.bytes (length l.bytes - l.index) l.index l.at) (g.P.Pages.written l.pages) written l.sheet last
      → AddsGroups (entry_groups l.bytes (length l.bytes) 0 20) (g.P.Pages.written l.initial.pages) written l.initial.sheet last;
  stopped : (written : Option (List ℕ))
      → GroupsBegun (entry_groups l.bytes (length l.bytes - l.index) l.index l.at) (g.P.Pages.written l.pages) written l.sheet
      → GroupsBegun (entry_groups l.bytes (length l.bytes) 0 20) (g.P.Pages.written l.initial.pages) written l.initial.sheet;
}

abbrev pub decreases-loop-entry : goal.decreases-loop-entry
decreases-loop-entry g l = length l.bytes - l.at
