-- Items as they are shown: what stands in their heading, and whether they are bad.
use Rattle.std.specs.Prelude.{◌≡◌, ℕ, Bool, true, false, List, [], ◌∷◌, length, Option, None, is_some, IfSome}
use Rattle.item_parts.specs.declared.items.Item.{Item}
use Rattle.show_findings.specs.declared.faults.Fault.{Fault}
use Rattle.show_findings.specs.Faults.{IsJudged, IsPlace}
use Rattle.show_items.specs.Items.{Shown}
use Rattle.show_items.specs.Sheets.{ItemsBegun, ShowsItems}
use Rattle.show_items.specs.declared.sheet.Sheet.{Sheet}

-- the first fault of an item that a standard has; none where the bytes begin with one that is as the standard says
unfoldable pub IsFinding : Item → List ℕ → Option Fault → Type 0
IsFinding item bytes fault = IsJudged item bytes (is_some fault) × IfSome fault (λ fault. IsPlace item bytes fault.at)

-- an item of this word, which begins there in its file
pub record IsShownAs (kind : List ℕ) (at : Option ℕ) (bytes : List ℕ) (item : Shown) : Type 0 where
  pub word : item.heading.kind ≡ kind
  pub place : item.heading.at ≡ at
  pub size : item.heading.size ≡ length bytes

-- one with a fault is bad
pub record IsJudgedBy (decoded : Item) (bytes : List ℕ) (item : Shown) : Type 0 where
  pub finding : IsFinding decoded bytes item.fault
  pub bad : item.bad ≡ is_some item.fault

-- one of which no fault is told
pub record HasNoFault (bad : Bool) (item : Shown) : Type 0 where
  pub none : item.fault ≡ None
  pub is_bad : item.bad ≡ bad

-- one item of this kind is shown
abbrev pub ShowsOne : (Is : Shown → Type 0) → (before after : Option (List ℕ)) → Sheet → Sheet → Type 0
ShowsOne Is before after old new = (item : Shown) × Is item × ShowsItems (item ∷ []) before after old new

-- the items that a file of some kind has are shown
abbrev pub ShowsAll : (Are : List Shown → Type 0) → (before after : Option (List ℕ)) → Sheet → Sheet → Type 0
ShowsAll Are before after old new = (items : List Shown) × Are items × ShowsItems items before after old new

-- a page could not be written while one item of this kind was shown
abbrev pub StopsOne : (Is : Shown → Type 0) → (before after : Option (List ℕ)) → Sheet → Type 0
StopsOne Is before after old = (item : Shown) × Is item × ItemsBegun (item ∷ []) before after old

-- a page could not be written while the items of a file were shown
abbrev pub StopsAll : (Are : List Shown → Type 0) → (before after : Option (List ℕ)) → Sheet → Type 0
StopsAll Are before after old = (items : List Shown) × Are items × ItemsBegun items before after old

-- the same where it is early, so that only the first of them are known
abbrev pub StopsIn : (Are : (early : Bool) → List Shown → Type 0) → (before after : Option (List ℕ)) → Sheet → Type 0
StopsIn Are before after old = (early : Bool) × StopsAll (Are early) before after old

-- where it is early, items may end anywhere
abbrev pub MayEnd : (early : Bool) → Type 0
MayEnd true = Unit {0}
MayEnd false = ⊥
