use Rattle.std.proofs.Common.{◌≡◌, ℕ, ◌-◌, false, List, Option}
use Rattle.show_items.specs.Images.{AreRecordsFrom}
use Rattle.show_items.specs.Items.{Shown}
use Rattle.show_items.specs.Judged.{ShowsAll, StopsIn}
use Rattle.show_items.specs.Sheets.{ShowsItems}
use Rattle.show_items.specs.declared.sheet.Sheet.{Sheet}
use Rattle.show_items.proofs.images.show_records.Given as goal

-- whatever follows is part of the whole, and so is a beginning of what follows, and no page failed so far
abbrev pub invariant-loop-slot : goal.invariant-loop-slot
invariant-loop-slot g l =
    let written = g.P.Pages.written in
    let failures = g.P.Pages.failures in
    record {
      shown : (last : Sheet) (after : Option (List ℕ)) (items : List Shown) → AreRecordsFrom false l.geometry l.image l.slot (l.geometry.slots - l.slot) items
          → ShowsItems items (written l.pages) after l.sheet last
          → ShowsAll (AreRecordsFrom false l.geometry l.image 0 l.geometry.slots) (written l.initial.pages) after l.initial.sheet last;
      stopped : (after : Option (List ℕ))
          → StopsIn (λ early. AreRecordsFrom early l.geometry l.image l.slot (l.geometry.slots - l.slot)) (written l.pages) after l.sheet
          → StopsIn (λ early. AreRecordsFrom early l.geometry l.image 0 l.geometry.slots) (written l.initial.pages) after l.initial.sheet;
      cause : failures l.pages ≡ failures l.initial.pages;
    }
