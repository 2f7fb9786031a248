use Rattle.std.proofs.Common.{◌≡◌, ℕ, false, List, Option, length}
use Rattle.show_items.specs.Items.{Shown}
use Rattle.show_items.specs.Judged.{ShowsAll, StopsIn}
use Rattle.show_items.specs.Sequences.{AreItems}
use Rattle.show_items.specs.Sheets.{ShowsItems}
use Rattle.show_items.specs.declared.sheet.Sheet.{Sheet}
use Rattle.show_items.proofs.sequences.show_sequence.Given as goal

-- whatever follows is part of the whole, and so is a beginning of what follows, and each page could be written
abbrev pub invariant-loop-rest : goal.invariant-loop-rest
invariant-loop-rest g l =
    record {
      whole : (last : Sheet) (after : Option (List ℕ)) (items : List Shown) → AreItems false l.at l.rest items
          → ShowsItems items (g.P.Pages.written l.pages) after l.sheet last
          → ShowsAll (AreItems false 0 l.bytes) (g.P.Pages.written l.initial.pages) after l.initial.sheet last;
      stopped : (after : Option (List ℕ)) → StopsIn (λ early. AreItems early l.at l.rest) (g.P.Pages.written l.pages) after l.sheet
          → StopsIn (λ early. AreItems early 0 l.bytes) (g.P.Pages.written l.initial.pages) after l.initial.sheet;
      written : g.P.Pages.failures l.pages ≡ g.P.Pages.failures l.initial.pages;
    }

abbrev pub decreases-loop-rest : goal.decreases-loop-rest
decreases-loop-rest g l = length l.rest
