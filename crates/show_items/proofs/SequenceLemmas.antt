-- The first item, and those behind it.
use Rattle.std.proofs.Common.{◌≡◌, ◌≢◌, ◌∙◌, ◌<◌, ℕ, ◌==◌, Bool, true, false, List, [], ◌∷◌, ◌++◌, Option, Some, inl, inr, refl, sym, subst, length, take, drop}
use Rattle.std.proofs.Common.{append-nil, length-drop, true≢false, arith}
use Rattle.std.proofs.lemmas.Bool.Decides.{nat_tests}
use Rattle.std.proofs.lemmas.List.{take_all}
use Rattle.show_findings.specs.Places.{item_len}
use Rattle.show_findings.specs.declared.items.Item.TheVariants.{Block, Record, Table}
use Rattle.show_findings.specs.declared.items.Item.{Item}
use Rattle.show_findings.specs.declared.kinds.FileKind.{FileKind}
use Rattle.show_findings.specs.declared.kinds.FileKind.TheVariants.{Records, Tables, Blocks, Blank}
use Rattle.show_findings.specs.Kinds.{kind_behind}
use Rattle.show_items.specs.Items.{Shown, counted}
use Rattle.show_items.specs.Judged.{ShowsAll, ShowsOne, StopsAll, StopsIn, StopsOne}
use Rattle.show_items.specs.Sequences.{AreFirst, AreIf, AreItems, IsFirst, IsItemAs, behind_first, first_len, is_item, kind_of_item, len_of}
use Rattle.show_items.specs.Sheets.{ShowsItems}
use Rattle.show_items.specs.Singles.{IsBlank, IsUnknown}
use Rattle.show_items.specs.declared.sheet.Sheet.{Sheet}
use Rattle.show_items.proofs.BeginningLemmas.{items_begun_then}
use Rattle.show_items.proofs.SheetLemmas.{items_on_pages, items_then, no_items}

-- what is no item is all that is left
no_item : (at : ℕ) (kind : FileKind) (bytes : List ℕ) → is_item at kind ≡ false → len_of kind bytes ≡ length bytes
no_item at Blank bytes none = refl
no_item at kind bytes none = absurd (true≢false none)

nothing_left : (bytes : List ℕ) (n : ℕ) → n ≡ length bytes → 0 < length (drop n bytes) → ⊥
nothing_left bytes n all some = omega (arith, length-drop {A = ℕ} n bytes, all, some)

first_and_more : (early : Bool) (at : ℕ) (is : Bool) (bytes : List ℕ) (first more : List Shown) → is_item at (kind_behind bytes) ≡ is → 0 < length bytes
    → AreIf is (IsFirst at bytes) first → AreItems early (counted at (first_len bytes)) (behind_first bytes) more → AreItems early at bytes (first ++ more)
first_and_more early at true bytes first more is some one rest =
    subst (λ (items : List Shown). AreItems early at bytes (items ++ more)) (sym one.2) (some, is, one.1, rest)
first_and_more early at false bytes first [] is some none rest =
    subst (λ (items : List Shown). AreItems early at bytes (items ++ [])) (sym none) (inr (inr is))
first_and_more early at false bytes first (item ∷ more) is some none rest =
    absurd (nothing_left bytes (first_len bytes) (no_item at (kind_behind bytes) bytes is) rest.0)

-- what is shown of the first, and of those behind it, is what is shown of all
pub all_shown : (at next : ℕ) (bytes rest : List ℕ) → next ≡ counted at (first_len bytes) → rest ≡ behind_first bytes → 0 < length bytes
    → (before middle after : Option (List ℕ)) (old between new : Sheet) → ShowsAll (AreFirst at bytes) before middle old between
    → (more : List Shown) → AreItems false next rest more → ShowsItems more middle after between new → ShowsAll (AreItems false at bytes) before after old new
all_shown at next bytes rest is_next is_rest some before middle after old between new first more are shows =
    let by_place : AreItems false (counted at (first_len bytes)) rest more = subst (λ (n : ℕ). AreItems false n rest more) is_next are in
    let by_bytes : AreItems false (counted at (first_len bytes)) (behind_first bytes) more =
    subst (λ (xs : List ℕ). AreItems false (counted at (first_len bytes)) xs more) is_rest by_place in (
      first.0 ++ more,
      first_and_more false at (is_item at (kind_behind bytes)) bytes first.0 more refl some first.1 by_bytes,
      items_then first.0 more before middle after old between new first.2 shows,
    )

-- a stop at the first, and one behind it, is a stop of all
pub first_begun : (at : ℕ) (bytes : List ℕ) → 0 < length bytes → (before after : Option (List ℕ)) (old : Sheet) → StopsAll (AreFirst at bytes) before after old
    → StopsIn (λ early. AreItems early at bytes) before after old
first_begun at bytes some before after old first =
    let are = first_and_more true at (is_item at (kind_behind bytes)) bytes first.0 [] refl some first.1 (inl tt) in
    (true, (first.0, subst (λ (items : List Shown). AreItems true at bytes items) (append-nil first.0) are, first.2))

pub next_begun : (at next : ℕ) (bytes rest : List ℕ) → next ≡ counted at (first_len bytes) → rest ≡ behind_first bytes → 0 < length bytes
    → (before middle after : Option (List ℕ)) (old between : Sheet) → ShowsAll (AreFirst at bytes) before middle old between
    → StopsIn (λ early. AreItems early next rest) middle after between → StopsIn (λ early. AreItems early at bytes) before after old
next_begun at next bytes rest is_next is_rest some before middle after old between first more =
    let early = more.0 in
    let items = more.1.0 in
    let by_place : AreItems early (counted at (first_len bytes)) rest items = subst (λ (n : ℕ). AreItems early n rest items) is_next more.1.1 in
    let by_bytes : AreItems early (counted at (first_len bytes)) (behind_first bytes) items =
    subst (λ (xs : List ℕ). AreItems early (counted at (first_len bytes)) xs items) is_rest by_place in
    let are = first_and_more early at (is_item at (kind_behind bytes)) bytes first.0 items refl some first.1 by_bytes in
    (early, (first.0 ++ items, are, items_begun_then first.0 items before middle after old between first.2 more.1.2))

pub none_left : (bytes : List ℕ) → length bytes ≡ 0 → bytes ≡ []
none_left [] none = refl
none_left (byte ∷ bytes) none = absurd (omega (arith, none))

-- one item, and none, as what the bytes begin with
pub one_shown : (is : Bool) (Is : Shown → Type 0) (before after : Option (List ℕ)) (old new : Sheet) → is ≡ true
    → ShowsOne Is before after old new → ShowsAll (AreIf is Is) before after old new
one_shown true Is before after old new it shows = (shows.0 ∷ [], (shows.0, shows.1, refl), shows.2)
one_shown false Is before after old new it shows = absurd (true≢false (sym it))

pub none_shown : (is : Bool) (Is : Shown → Type 0) (written : Option (List ℕ)) (sheet : Sheet) → is ≡ false → ShowsAll (AreIf is Is) written written sheet sheet
none_shown true Is written sheet it = absurd (true≢false it)
none_shown false Is written sheet it = ([], refl, no_items written sheet)

pub one_on_pages : (Is : Shown → Type 0) (written : Option (List ℕ)) (old new : Sheet) → ShowsOne Is (Some []) (Some []) old new → ShowsOne Is written written old new
one_on_pages Is written old new shows = (shows.0, shows.1, items_on_pages (shows.0 ∷ []) written old new shows.2)

-- what holds of one kind of item holds of another
pub one_of_kind : (Is As : Shown → Type 0) (before after : Option (List ℕ)) (old new : Sheet) → ((item : Shown) → Is item → As item)
    → ShowsOne Is before after old new → ShowsOne As before after old new
one_of_kind Is As before after old new also shows = (shows.0, also shows.0 shows.1, shows.2)

-- the kinds that bytes of any length are
whole : (bytes : List ℕ) → bytes ≡ take (length bytes) bytes
whole bytes = sym (take_all (length bytes) bytes (omega arith))

pub is_blank : (at : ℕ) (kind : FileKind) (bytes : List ℕ) → kind ≡ Blank → (item : Shown) → IsBlank at bytes item → IsItemAs kind at (take (len_of kind bytes) bytes) item
is_blank at kind bytes blank item it =
    subst (λ (k : FileKind). IsItemAs k at (take (len_of k bytes) bytes) item) (sym blank) (subst (λ (xs : List ℕ). IsBlank at xs item) (whole bytes) it)

pub blank_first : (at : ℕ) (kind : FileKind) → kind ≡ Blank → at ≡ 0 → is_item at kind ≡ true
blank_first at kind blank first =
    let test : (at == 0) ≡ true = grind (arith, nat_tests, first) in
    subst (λ (k : FileKind). is_item at k ≡ true) (sym blank) test

pub blank_behind : (at : ℕ) (kind : FileKind) → kind ≡ Blank → 0 < at → is_item at kind ≡ false
blank_behind at kind blank behind =
    let test : (at == 0) ≡ false = grind (arith, nat_tests, behind) in
    subst (λ (k : FileKind). is_item at k ≡ false) (sym blank) test

pub unknown_first : (at : ℕ) (kind : FileKind) → kind ≢ Blank → is_item at kind ≡ true
unknown_first at Blank other = absurd (other refl)
unknown_first at kind other = refl

pub len_of_unknown : (kind : FileKind) (bytes : List ℕ) → kind ≢ Records → kind ≢ Tables → kind ≢ Blocks → len_of kind bytes ≡ length bytes
len_of_unknown Records bytes record_not table_not block_not = absurd (record_not refl)
len_of_unknown Tables bytes record_not table_not block_not = absurd (table_not refl)
len_of_unknown Blocks bytes record_not table_not block_not = absurd (block_not refl)
len_of_unknown kind bytes record_not table_not block_not = refl

pub is_unknown : (at : ℕ) (kind : FileKind) (bytes : List ℕ) → kind ≢ Records → kind ≢ Tables → kind ≢ Blocks → kind ≢ Blank
    → (item : Shown) → IsUnknown at bytes item → IsItemAs kind at (take (len_of kind bytes) bytes) item
is_unknown at Records bytes record_not table_not block_not blank_not item it = absurd (record_not refl)
is_unknown at Tables bytes record_not table_not block_not blank_not item it = absurd (table_not refl)
is_unknown at Blocks bytes record_not table_not block_not blank_not item it = absurd (block_not refl)
is_unknown at Blank bytes record_not table_not block_not blank_not item it = absurd (blank_not refl)
is_unknown at kind bytes record_not table_not block_not blank_not item it = subst (λ (xs : List ℕ). IsUnknown at xs item) (whole bytes) it

-- a stop at a record, a table or a block is one at the first item
one_begun : (is : Bool) (Is : Shown → Type 0) (before after : Option (List ℕ)) (old : Sheet) → is ≡ true → StopsOne Is before after old → StopsAll (AreIf is Is) before after old
one_begun true Is before after old it begun = (begun.0 ∷ [], (begun.0, begun.1, refl), begun.2)
one_begun false Is before after old it begun = absurd (true≢false (sym it))

is_item_of : (at : ℕ) (item : Item) → is_item at (kind_of_item item) ≡ true
is_item_of at Record = refl
is_item_of at Table = refl
is_item_of at Block = refl

len_of_item : (item : Item) (bytes : List ℕ) → item_len item bytes ≡ len_of (kind_of_item item) bytes
len_of_item Record bytes = refl
len_of_item Table bytes = refl
len_of_item Block bytes = refl

pub first_of_kind : (at len : ℕ) (bytes : List ℕ) (item : Item) (before after : Option (List ℕ)) (old : Sheet) → kind_behind bytes ≡ kind_of_item item → len ≡ item_len item bytes
    → StopsOne (IsItemAs (kind_of_item item) at (take len bytes)) before after old → StopsAll (AreFirst at bytes) before after old
first_of_kind at len bytes item before after old same all begun =
    let T : FileKind → Type 0 = λ (k : FileKind). StopsOne (IsItemAs k at (take (len_of k bytes) bytes)) before after old in
    let by_len : T (kind_of_item item) =
    subst (λ (n : ℕ). StopsOne (IsItemAs (kind_of_item item) at (take n bytes)) before after old) (all ∙ len_of_item item bytes) begun in
    one_begun (is_item at (kind_behind bytes)) (IsFirst at bytes) before after old
    (subst (λ (k : FileKind). is_item at k ≡ true) (sym same) (is_item_of at item)) (subst T (sym same) by_len)
