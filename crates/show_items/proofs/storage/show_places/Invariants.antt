use Rattle.std.proofs.Common.{◌≡◌, ℕ, ◌-◌, false, List, Option}
use Rattle.show_items.specs.Items.{Shown}
use Rattle.show_items.specs.Judged.{ShowsAll, StopsIn}
use Rattle.show_items.specs.Sheets.{ShowsItems}
use Rattle.show_items.specs.Storage.{AreStored, AreStoredFrom, end_of_places}
use Rattle.show_items.specs.declared.sheet.Sheet.{Sheet}
use Rattle.show_items.proofs.storage.show_places.Given as goal

-- whatever follows is part of the whole, and so is a beginning of what follows, and no page failed so far
abbrev pub invariant-loop-place : goal.invariant-loop-place
invariant-loop-place g l =
    let written = g.P.Pages.written in
    let failures = g.P.Pages.failures in
    record {
      shown : (last : Sheet) (after : Option (List ℕ)) (items : List Shown) → AreStoredFrom false l.bytes l.place (end_of_places l.bytes - l.place) items
          → ShowsItems items (written l.pages) after l.sheet last
          → ShowsAll (AreStored false l.bytes) (written l.initial.pages) after l.initial.sheet last;
      stopped : (after : Option (List ℕ)) → StopsIn (λ early. AreStoredFrom early l.bytes l.place (end_of_places l.bytes - l.place)) (written l.pages) after l.sheet
          → StopsIn (λ early. AreStored early l.bytes) (written l.initial.pages) after l.initial.sheet;
      cause : failures l.pages ≡ failures l.initial.pages;
    }
