use Rattle.std.proofs.Common.{◌≡◌, ◌||◌, ℕ, false, List, Option, length}
use Rattle.show_items.specs.Dumps.{AreTables, has_any, tables_in, tables_left}
use Rattle.show_items.specs.Items.{Shown}
use Rattle.show_items.specs.Judged.{ShowsAll, StopsIn}
use Rattle.show_items.specs.Sheets.{ShowsItems}
use Rattle.show_items.specs.declared.sheet.Sheet.{Sheet}
use Rattle.show_items.proofs.dumps.show_tables.Given as goal

-- whatever follows is part of the whole, and so is a beginning of what follows
abbrev pub invariant-loop-dump : goal.invariant-loop-dump
invariant-loop-dump g l = record {
  all : (last : Sheet) (after : Option (List ℕ)) (more : List Shown) → AreTables false (tables_left l.dump) more
      → ShowsItems more (g.P.Pages.written l.pages) after l.sheet last
      → ShowsAll (AreTables false (tables_in l.text)) (g.P.Pages.written l.initial.pages) after l.initial.sheet last;
  stopped : (after : Option (List ℕ)) → StopsIn (λ early. AreTables early (tables_left l.dump)) (g.P.Pages.written l.pages) after l.sheet
      → StopsIn (λ early. AreTables early (tables_in l.text)) (g.P.Pages.written l.initial.pages) after l.initial.sheet;
  any : (l.dump.has_tables || has_any (tables_left l.dump)) ≡ has_any (tables_in l.text);
  sound : g.P.Pages.failures l.pages ≡ g.P.Pages.failures l.initial.pages;
}

abbrev pub decreases-loop-dump : goal.decreases-loop-dump
decreases-loop-dump g l = length l.dump.rest.now
