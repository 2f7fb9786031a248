use Rattle.std.proofs.Common.{◌≡◌, ℕ, ◌-◌, List, Option}
use Rattle.show_findings.specs.Places.{seen_number}
use Rattle.show_items.specs.Sheets.{AddsGroups, GroupsBegun}
use Rattle.show_items.specs.Refusals.{refused_sources}
use Rattle.show_items.specs.declared.sheet.Sheet.{Sheet}
use Rattle.show_items.proofs.refusals.add_refused_sources.Given as goal

-- whatever follows is part of the whole, and so is a beginning of what follows, and each page could be written
abbrev pub invariant-loop-index : goal.invariant-loop-index
invariant-loop-index g l =
    record {
      whole : (last : Sheet) (after : Option (List ℕ))
          → AddsGroups (refused_sources l.bytes (seen_number l.bytes 36 4 - l.index) l.index l.at) (g.P.Pages.written l.pages) after l.sheet last
          → AddsGroups (refused_sources l.bytes (seen_number l.bytes 36 4) 0 40) (g.P.Pages.written l.initial.pages) after l.initial.sheet last;
      stopped : (after : Option (List ℕ)) → GroupsBegun (refused_sources l.bytes (seen_number l.bytes 36 4 - l.index) l.index l.at) (g.P.Pages.written l.pages) after l.sheet
          → GroupsBegun (refused_sources l.bytes (seen_number l.bytes 36 4) 0 40) (g.P.Pages.written l.initial.pages) after l.initial.sheet;
      written : g.P.Pages.failures l.pages ≡ g.P.Pages.failures l.initial.pages;
    }
