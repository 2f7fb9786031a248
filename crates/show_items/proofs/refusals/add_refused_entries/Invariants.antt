use Rattle.std.proofs.Common.{◌≡◌, ℕ, ◌-◌, List, Option}
use Rattle.show_findings.specs.Places.{seen_number}
use Rattle.show_items.specs.Sheets.{AddsGroups, GroupsBegun}
use Rattle.show_items.specs.Refusals.{refused_entries}
use Rattle.show_items.specs.declared.sheet.Sheet.{Sheet}
use Rattle.show_items.proofs.refusals.add_refused_entries.Given as goal

-- whatever follows is part of the whole, and so is a beginning of what follows, and each page could be written
abbrev pub invariant-loop-index : goal.invariant-loop-index
invariant-loop-index g l =
    record {
      whole : (last : Sheet) (after : Option (List ℕ))
          → AddsGroups (refused_entries l.bytes (seen_number l.bytes 44 4 - l.index) l.index) (g.P.Pages.written l.pages) after l.sheet last
          → AddsGroups (refused_entries l.bytes (seen_number l.bytes 44 4) 0) (g.P.Pages.written l.initial.pages) after l.initial.sheet last;
      stopped : (after : Option (List ℕ)) → GroupsBegun (refused_entries l.bytes (seen_number l.bytes 44 4 - l.index) l.index) (g.P.Pages.written l.pages) after l.sheet
          → GroupsBegun (refused_entries l.bytes (seen_number l.bytes 44 4) 0) (g.P.Pages.written l.initial.pages) after l.initial.sheet;
      written : g.P.Pages.failures l.pages ≡ g.P.Pages.failures l.initial.pages;
    }
