-- Groups of an item, and items that are shown on the sheet alone.
use Rattle.std.proofs.Common.{◌≡◌, ℕ, List, [], ◌∷◌, ◌++◌, take, Option, Some, refl, subst}
use Rattle.base_model.specs.Bytes.{part}
use Rattle.show_items.specs.Groups.{Group}
use Rattle.show_items.specs.Items.{Shown, smbios_of}
use Rattle.show_items.specs.Sheets.{AddsGroups, BeginsItem, EndsItem, ShowsItems}
use Rattle.show_items.specs.declared.sheet.Sheet.{Sheet}
use Rattle.show_items.proofs.SheetLemmas.{groups_then, item_shown, no_groups, on_pages}

-- the first bytes
pub first_part : (bytes : List ℕ) (n : ℕ) → part bytes 0 n ≡ take n bytes
unfolding part
first_part bytes n = refl

-- the same groups by other words
pub same_groups : (some more : List Group) (before after : Option (List ℕ)) (old new : Sheet) → some ≡ more
    → AddsGroups some before after old new → AddsGroups more before after old new
same_groups some more before after old new same adds = subst (λ (groups : List Group). AddsGroups groups before after old new) same adds

-- groups that were added, of which a page may then have been written, and those behind them
pub turned_and_more : (some more : List Group) (before middle after : Option (List ℕ)) (old added turned new : Sheet)
    → AddsGroups some (Some []) (Some []) old added → AddsGroups [] before middle added turned → AddsGroups more middle after turned new
    → AddsGroups (some ++ more) before after old new
turned_and_more some more before middle after old added turned new adds turns then =
    groups_then some more before before after old added new (on_pages some before old added adds)
    (groups_then [] more before middle after added turned new turns then)

-- an item that was begun, whose groups were added, and that was ended
pub shown_alone : (item : Shown) (old begun grouped ended : Sheet)
    → BeginsItem item.heading old begun → AddsGroups item.groups (Some []) (Some []) begun grouped → EndsItem item.fault item.bad grouped ended
    → item.smbios ≡ smbios_of old.manner → ShowsItems (item ∷ []) (Some []) (Some []) old ended
shown_alone item old begun grouped ended begins adds ends named =
    item_shown item (Some []) (Some []) (Some []) old begun grouped ended ended begins adds ends (no_groups (Some []) ended) named
