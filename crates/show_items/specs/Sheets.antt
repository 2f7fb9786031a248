-- A sheet, and the pages that it goes to: what is added to both. What was written and what stands on the sheet is one text.
use Rattle.std.specs.Prelude.{◌≡◌, ℕ, Bool, false, ◌||◌, List, ◌++◌, Option}
use Rattle.std.specs.Io.KnownBytes.{Appends, append_known}
use Rattle.show_findings.specs.declared.faults.Fault.{Fault}
use Rattle.show_items.specs.Beginnings.{Grows, IsBegun}
use Rattle.show_items.specs.Groups.{Group, groups_text, has_more}
use Rattle.show_items.specs.Items.{AreNamedBy, Heading, Shown, bad_after, count_after, counted, end_text, heading_text, items_text, smbios_of}
use Rattle.show_items.specs.declared.sheet.Sheet.{Sheet}

-- what was written to the pages, where that is known, and behind it what stands on the sheet
abbrev pub told : (written : Option (List ℕ)) → Sheet → Option (List ℕ)
told written sheet = append_known written sheet.out.items

-- the item that is shown is the same: only its text grew
pub record KeepsItem (old new : Sheet) : Type 0 where
  pub items : new.items ≡ old.items
  pub bad : new.has_bad ≡ old.has_bad
  pub path : new.path ≡ old.path
  pub manner : new.manner ≡ old.manner

-- a text was added to it
pub record AddsText (more : List ℕ) (old new : Sheet) : Type 0 where
  pub text : new.out.items ≡ old.out.items ++ more
  pub groups : new.has_groups ≡ old.has_groups
  pub same : KeepsItem old new

-- an item was begun
pub record BeginsItem (heading : Heading) (old new : Sheet) : Type 0 where
  pub text : new.out.items ≡ old.out.items ++ heading_text old.manner old.path.now old.items heading
  pub groups : new.has_groups ≡ false
  pub same : KeepsItem old new

-- groups were added to it, while pages may have been written
pub record AddsGroups (groups : List Group) (before after : Option (List ℕ)) (old new : Sheet) : Type 0 where
  pub text : Appends (told before old) (told after new) (groups_text old.manner old.has_groups groups)
  pub grows : Grows before after
  pub more : new.has_groups ≡ has_more old.manner.form old.has_groups groups
  pub same : KeepsItem old new

-- they had to be added, and a page could not be written
abbrev pub GroupsBegun : (groups : List Group) → (before after : Option (List ℕ)) → (old : Sheet) → Type 0
GroupsBegun groups before after old =
    IsBegun before (append_known (told before old) (groups_text old.manner old.has_groups groups)) after

-- it was ended
pub record EndsItem (fault : Option Fault) (bad : Bool) (old new : Sheet) : Type 0 where
  pub text : new.out.items ≡ old.out.items ++ end_text old.manner fault
  pub items : new.items ≡ counted old.items 1
  pub has_bad : new.has_bad ≡ (bad || old.has_bad)
  pub path : new.path ≡ old.path
  pub manner : new.manner ≡ old.manner

-- items were shown, one after another, while pages may have been written
pub record ShowsItems (items : List Shown) (before after : Option (List ℕ)) (old new : Sheet) : Type 0 where
  pub text : Appends (told before old) (told after new) (items_text old.manner old.path.now old.items items)
  pub grows : Grows before after
  pub count : new.items ≡ count_after old.items items
  pub has_bad : new.has_bad ≡ bad_after old.has_bad items
  pub named_by : AreNamedBy (smbios_of old.manner) items
  pub path : new.path ≡ old.path
  pub manner : new.manner ≡ old.manner

-- they had to be shown, and a page could not be written
pub record ItemsBegun (items : List Shown) (before after : Option (List ℕ)) (old : Sheet) : Type 0 where
  pub begun : IsBegun before (append_known (told before old) (items_text old.manner old.path.now old.items items)) after
  pub named_by : AreNamedBy (smbios_of old.manner) items
