-- One place, and those behind it.
use Rattle.std.proofs.Common.{◌≡◌, ℕ, zero, suc, ◌+◌, ◌-◌, ◌<◌, ◌≤◌, Bool, true, false, List, [], ◌∷◌, Option, Some, refl, subst, arith}
use Rattle.show_items.specs.Items.{Shown}
use Rattle.show_items.specs.Judged.{ShowsAll, ShowsOne, StopsAll, StopsIn}
use Rattle.show_items.specs.Places.{AreFrom, AtPlace, ShowsIf, StopsIf}
use Rattle.show_items.specs.Sheets.{ShowsItems}
use Rattle.show_items.specs.declared.sheet.Sheet.{Sheet}
use Rattle.show_items.proofs.BeginningLemmas.{items_begun_then}
use Rattle.show_items.proofs.SheetLemmas.{items_on_pages, items_then, one_and_more}

-- what is shown of a place, and of those behind it, is what is shown from there on
shown_and_more : (has : Bool) (Is : Shown → Type 0) (Rest : List Shown → Type 0) (before middle after : Option (List ℕ)) (old between new : Sheet) (items : List Shown)
    → ShowsIf has Is before middle old between → Rest items → ShowsItems items middle after between new → ShowsAll (AtPlace false has Is Rest) before after old new
shown_and_more true Is Rest before middle after old between new items shown rest more =
    (shown.0 ∷ items, (shown.1, rest), one_and_more shown.0 items before middle after old between new shown.2 more)
shown_and_more false Is Rest before middle after old between new items shown rest more =
    (items, rest, items_then [] items before middle after old between new shown more)

pub one_place_more : (has : ℕ → Bool) (Is : ℕ → Shown → Type 0) (place end : ℕ) (before middle after : Option (List ℕ)) (old between new : Sheet) (items : List Shown)
    → place < end → ShowsIf (has place) (Is place) before middle old between → AreFrom false has Is (place + 1) (end - (place + 1)) items → ShowsItems items middle after between new
    → ShowsAll (AreFrom false has Is place (end - place)) before after old new
one_place_more has Is place end before middle after old between new items below shown rest more =
    let one : suc (end - (place + 1)) ≡ end - place = omega (arith, below) in
    subst (λ (left : ℕ). ShowsAll (AreFrom false has Is place left) before after old new) one
    (shown_and_more (has place) (Is place) (AreFrom false has Is (place + 1) (end - (place + 1))) before middle after old between new items shown rest more)

pub no_place_left : (has : ℕ → Bool) (Is : ℕ → Shown → Type 0) (place end : ℕ) → end ≤ place → AreFrom false has Is place (end - place) []
no_place_left has Is place end over =
    let none : 0 ≡ end - place = omega (arith, over) in
    subst (λ (left : ℕ). AreFrom false has Is place left []) none refl

-- where it is early, no place has to have its item
at_place_none : (has : Bool) (Is : Shown → Type 0) (Rest : List Shown → Type 0) → Rest [] → AtPlace true has Is Rest []
at_place_none true Is Rest rest = tt
at_place_none false Is Rest rest = rest

from_none : (has : ℕ → Bool) (Is : ℕ → Shown → Type 0) (place left : ℕ) → AreFrom true has Is place left []
from_none has Is place zero = refl
from_none has Is place (suc left) = at_place_none (has place) (Is place) (AreFrom true has Is (place + 1) left) (from_none has Is (place + 1) left)

-- a stop at a place, and one behind it, is a stop of all from there on
place_begun : (has : Bool) (Is : Shown → Type 0) (Rest : List Shown → Type 0) (before after : Option (List ℕ)) (old : Sheet) → Rest [] → StopsIf has Is before after old
    → StopsAll (AtPlace true has Is Rest) before after old
place_begun true Is Rest before after old rest begun = (begun.0 ∷ [], (begun.1, rest), begun.2)
place_begun false Is Rest before after old rest begun = ([], rest, begun)

rest_begun : (early has : Bool) (Is : Shown → Type 0) (Rest : List Shown → Type 0) (before middle after : Option (List ℕ)) (old between : Sheet)
    → ShowsIf has Is before middle old between → StopsAll Rest middle after between → StopsAll (AtPlace early has Is Rest) before after old
rest_begun early true Is Rest before middle after old between shown more =
    (shown.0 ∷ more.0, (shown.1, more.1), items_begun_then (shown.0 ∷ []) more.0 before middle after old between shown.2 more.2)
rest_begun early false Is Rest before middle after old between shown more =
    (more.0, more.1, items_begun_then [] more.0 before middle after old between shown more.2)

pub one_place_begun : (has : ℕ → Bool) (Is : ℕ → Shown → Type 0) (place end : ℕ) (before after : Option (List ℕ)) (old : Sheet) → place < end
    → StopsIf (has place) (Is place) before after old → StopsIn (λ early. AreFrom early has Is place (end - place)) before after old
one_place_begun has Is place end before after old below begun =
    let left : ℕ = end - (place + 1) in
    let one : suc left ≡ end - place = omega (arith, below) in (
      true,
      subst (λ (n : ℕ). StopsAll (AreFrom true has Is place n) before after old) one
          (place_begun (has place) (Is place) (AreFrom true has Is (place + 1) left) before after old (from_none has Is (place + 1) left) begun),
    )

pub next_place_begun : (has : ℕ → Bool) (Is : ℕ → Shown → Type 0) (place end : ℕ) (before middle after : Option (List ℕ)) (old between : Sheet) → place < end
    → ShowsIf (has place) (Is place) before middle old between → StopsIn (λ early. AreFrom early has Is (place + 1) (end - (place + 1))) middle after between
    → StopsIn (λ early. AreFrom early has Is place (end - place)) before after old
next_place_begun has Is place end before middle after old between below shown more =
    let early = more.0 in
    let left : ℕ = end - (place + 1) in
    let one : suc left ≡ end - place = omega (arith, below) in (
      early,
      subst (λ (n : ℕ). StopsAll (AreFrom early has Is place n) before after old) one
          (rest_begun early (has place) (Is place) (AreFrom early has Is (place + 1) left) before middle after old between shown more.1),
    )

-- a stop behind an item that stands on the sheet alone
pub one_and_begun : (Is : Shown → Type 0) (Are All : Bool → List Shown → Type 0) (written after : Option (List ℕ)) (old between : Sheet)
    → ((early : Bool) (item : Shown) (items : List Shown) → Is item → Are early items → All early (item ∷ items))
    → ShowsOne Is (Some []) (Some []) old between → StopsIn Are written after between → StopsIn All written after old
one_and_begun Is Are All written after old between join one more =
    let item = one.0 in
    let items = more.1.0 in
    let begun = items_begun_then (item ∷ []) items written written after old between (items_on_pages (item ∷ []) written old between one.2) more.1.2 in
    (more.0, (item ∷ items, join more.0 item items one.1 more.1.1, begun))

-- an item that stands on the sheet alone, and those behind it
pub one_and_all : (Is : Shown → Type 0) (Are All : List Shown → Type 0) (written after : Option (List ℕ)) (old between new : Sheet)
    → ((item : Shown) (items : List Shown) → Is item → Are items → All (item ∷ items))
    → ShowsOne Is (Some []) (Some []) old between → ShowsAll Are written after between new → ShowsAll All written after old new
one_and_all Is Are All written after old between new join one more =
    let item = one.0 in
    let items = more.0 in (
      item ∷ items,
      join item items one.1 more.1,
      one_and_more item items written written after old between new (items_on_pages (item ∷ []) written old between one.2) more.2,
    )

-- it alone
pub one_alone : (Is : Shown → Type 0) (All : List Shown → Type 0) (written : Option (List ℕ)) (old new : Sheet)
    → ((item : Shown) → Is item → All (item ∷ [])) → ShowsOne Is (Some []) (Some []) old new → ShowsAll All written written old new
one_alone Is All written old new join one = (one.0 ∷ [], join one.0 one.1, items_on_pages (one.0 ∷ []) written old new one.2)
