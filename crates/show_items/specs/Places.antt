-- Items at places of equal distance, one after another.
use Rattle.std.specs.Prelude.{◌≡◌, ℕ, zero, suc, ◌+◌, Bool, true, false, List, [], ◌∷◌, Option}
use Rattle.show_items.specs.Items.{Shown}
use Rattle.show_items.specs.Judged.{MayEnd, ShowsOne, StopsOne}
use Rattle.show_items.specs.Sheets.{ItemsBegun, ShowsItems}
use Rattle.show_items.specs.declared.sheet.Sheet.{Sheet}

-- a place may have an item, and the others stand behind it
abbrev pub AtPlace : (early has : Bool) → (Is : Shown → Type 0) → (Rest : List Shown → Type 0) → List Shown → Type 0
AtPlace early false Is Rest items = Rest items
AtPlace early true Is Rest [] = MayEnd early
AtPlace early true Is Rest (item ∷ items) = Is item × Rest items

-- the items of so many places, from one on
abbrev pub AreFrom : (early : Bool) → (has : ℕ → Bool) → (Is : ℕ → Shown → Type 0) → (place left : ℕ) → List Shown → Type 0
AreFrom early has Is place zero items = items ≡ []
AreFrom early has Is place (suc left) items =
    AtPlace early (has place) (Is place) (AreFrom early has Is (place + 1) left) items

-- the item of a place is shown, where it has one
abbrev pub ShowsIf : (has : Bool) → (Is : Shown → Type 0) → (before after : Option (List ℕ)) → Sheet → Sheet → Type 0
ShowsIf false Is before after old new = ShowsItems [] before after old new
ShowsIf true Is before after old new = ShowsOne Is before after old new

-- and a page could not be written by then
abbrev pub StopsIf : (has : Bool) → (Is : Shown → Type 0) → (before after : Option (List ℕ)) → Sheet → Type 0
StopsIf false Is before after old = ItemsBegun [] before after old
StopsIf true Is before after old = StopsOne Is before after old
