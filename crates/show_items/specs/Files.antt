-- What is shown of a file, by its kind.
use Rattle.std.specs.Prelude.{ℕ, Bool, false, List, Option}
use Rattle.show_findings.specs.declared.kinds.FileKind.{FileKind}
use Rattle.show_findings.specs.declared.kinds.FileKind.TheVariants.{Dump, Qemu, Medium, Image, Packed, MachineCheck, Dmesg, Empty}
use Rattle.show_findings.specs.Kinds.{IsKind}
use Rattle.show_items.specs.Dumps.{AreDumped}
use Rattle.show_items.specs.Images.{AreImageItems, AreMediumItems}
use Rattle.show_items.specs.Items.{Shown}
use Rattle.show_items.specs.Judged.{ShowsAll, StopsIn}
use Rattle.show_items.specs.Sequences.{AreItems, AreOne}
use Rattle.show_items.specs.Singles.{IsDmesg, IsEmpty, IsMachineCheck, IsPacked}
use Rattle.show_items.specs.Storage.{AreStorageItems}
use Rattle.show_items.specs.declared.sheet.Sheet.{Sheet}

-- the items of a file of a kind
abbrev pub AreItemsOf : (early : Bool) → FileKind → List ℕ → List Shown → Type 0
AreItemsOf early Dump bytes items = AreDumped early bytes items
AreItemsOf early Qemu bytes items = AreStorageItems early bytes items
AreItemsOf early Medium bytes items = AreMediumItems early bytes items
AreItemsOf early (Image geometry) bytes items = AreImageItems early geometry bytes items
AreItemsOf early Packed bytes items = AreOne (IsPacked bytes) items
AreItemsOf early MachineCheck bytes items = AreOne (IsMachineCheck bytes) items
AreItemsOf early Dmesg bytes items = AreOne (IsDmesg bytes) items
AreItemsOf early Empty bytes items = AreOne IsEmpty items
AreItemsOf early other bytes items = AreItems early 0 bytes items

-- and those of a file of a name
abbrev pub AreItemsOfFile : (early : Bool) → (name bytes : List ℕ) → List Shown → Type 0
AreItemsOfFile early name bytes items = (kind : FileKind) × IsKind name bytes kind × AreItemsOf early kind bytes items

-- the items of a file are shown
abbrev pub ShowsFile : (name bytes : List ℕ) → (before after : Option (List ℕ)) → Sheet → Sheet → Type 0
ShowsFile name bytes before after old new = ShowsAll (AreItemsOfFile false name bytes) before after old new

-- and a page could not be written by then
abbrev pub StopsFile : (name bytes : List ℕ) → (before after : Option (List ℕ)) → Sheet → Type 0
StopsFile name bytes before after old = StopsIn (λ early. AreItemsOfFile early name bytes) before after old
