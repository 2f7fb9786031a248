-- What is shown of a file of one item.
use Rattle.std.proofs.Common.{◌≡◌, ℕ, false, List, [], ◌∷◌, Option, Some, refl, sym, subst}
use Rattle.show_findings.specs.declared.kinds.FileKind.{FileKind}
use Rattle.show_findings.specs.Kinds.{IsKind}
use Rattle.show_items.specs.Files.{AreItemsOf, ShowsFile, StopsFile}
use Rattle.show_items.specs.Items.{Shown}
use Rattle.show_items.specs.Judged.{ShowsAll, ShowsOne, StopsIn}
use Rattle.show_items.specs.Sequences.{AreOne}
use Rattle.show_items.specs.Sheets.{AddsGroups, GroupsBegun}
use Rattle.show_items.specs.declared.sheet.Sheet.{Sheet}
use Rattle.show_items.proofs.BeginningLemmas.{shown_and_stopped}
use Rattle.show_items.proofs.SheetLemmas.{items_on_pages, shown_and_turned}

pub all_of_one : (kind one : FileKind) (bytes : List ℕ) (written : Option (List ℕ)) (old new : Sheet) (Is : Shown → Type 0) → kind ≡ one
    → ((items : List Shown) → AreOne Is items → AreItemsOf false one bytes items)
    → ShowsOne Is (Some []) (Some []) old new → ShowsAll (AreItemsOf false kind bytes) written written old new
all_of_one kind one bytes written old new Is is_one are shows =
    subst (λ (k : FileKind). ShowsAll (AreItemsOf false k bytes) written written old new) (sym is_one)
    (shows.0 ∷ [], are (shows.0 ∷ []) (shows.0, shows.1, refl), items_on_pages (shows.0 ∷ []) written old new shows.2)

-- the last page changes nothing of it
pub shown_and_written : (name bytes : List ℕ) (kind : FileKind) (before middle after : Option (List ℕ)) (old between new : Sheet) → IsKind name bytes kind
    → ShowsAll (AreItemsOf false kind bytes) before middle old between → AddsGroups [] middle after between new → ShowsFile name bytes before after old new
shown_and_written name bytes kind before middle after old between new is_kind shows written =
    (shows.0, (kind, is_kind, shows.1), shown_and_turned shows.0 before middle after old between new shows.2 written)

-- a stop at its items, and one at the last page
pub file_begun : (name bytes : List ℕ) (kind : FileKind) (before after : Option (List ℕ)) (old : Sheet) → IsKind name bytes kind
    → StopsIn (λ early. AreItemsOf early kind bytes) before after old → StopsFile name bytes before after old
file_begun name bytes kind before after old is_kind begun = (begun.0, (begun.1.0, (kind, is_kind, begun.1.1), begun.1.2))

pub last_page_begun : (name bytes : List ℕ) (kind : FileKind) (before middle after : Option (List ℕ)) (old between : Sheet) → IsKind name bytes kind
    → ShowsAll (AreItemsOf false kind bytes) before middle old between → GroupsBegun [] middle after between → StopsFile name bytes before after old
last_page_begun name bytes kind before middle after old between is_kind shows begun =
    (false, (shows.0, (kind, is_kind, shows.1), shown_and_stopped shows.0 before middle after old between shows.2 begun))
