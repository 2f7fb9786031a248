-- What was written by a sheet on which nothing stands, before and after.
use Rattle.std.proofs.Common.{◌≡◌, ◌∙◌, ℕ, Bool, false, List, [], ◌∷◌, ◌++◌, length, take, drop, Option, Some, None, Result, Ok, Err, IfOk, OnErr, inl, inr}
use Rattle.std.proofs.Common.{refl, sym, ap, subst, append-nil, append_assoc, arith}
use Rattle.std.proofs.lemmas.List.{take-append-drop}
use Rattle.std.specs.Io.KnownBytes.{Appends, Keeps, append_known}
use Rattle.show_items.specs.Beginnings.{IsBegun}
use Rattle.show_items.specs.Files.{ShowsFile, StopsFile}
use Rattle.show_items.specs.Items.{AreNamedBy, bad_after, items_text, smbios_of}
use Rattle.show_items.specs.declared.pages.Stop.{Stop}
use Rattle.show_items.specs.declared.sheet.Manner.{Manner}
use Rattle.show_items.specs.declared.sheet.Sheet.{Sheet}
use Rattle.apei_show.specs.Names.{name_of}
use Rattle.apei_show.specs.Outputs.{IsWritten, StopsWriting}
use Rattle.show_items.proofs.BeginningLemmas.{begun_more, begun_then}

nothing_behind : (known : Option (List ℕ)) → append_known known [] ≡ known
nothing_behind None = refl
nothing_behind (Some bytes) = ap Some (append-nil bytes)

pub on_pages_alone : (before after : Option (List ℕ)) (old new text : List ℕ) → old ≡ [] → new ≡ []
    → Appends (append_known before old) (append_known after new) text → Appends before after text
on_pages_alone before after old new text none left appends =
    let first : Appends (append_known before []) (append_known after []) text =
    subst (λ (n : List ℕ). Appends (append_known before []) (append_known after n) text) left (subst (λ (o : List ℕ). Appends (append_known before o) (append_known after new) text) none appends) in
    subst (λ (a : Option (List ℕ)). Appends before a text) (nothing_behind after)
    (subst (λ (b : Option (List ℕ)). Appends b (append_known after []) text) (nothing_behind before) first)

pub appends_then : (a b c : Option (List ℕ)) (x y : List ℕ) → Appends a b x → Appends b c y → Appends a c (x ++ y)
appends_then None b c x y first then = tt
appends_then (Some one) (Some two) (Some three) x y first then = then ∙ ap (λ (t : List ℕ). t ++ y) first ∙ append_assoc one x y
appends_then (Some one) (Some two) None x y first then = absurd then
appends_then (Some one) None c x y first then = absurd first

-- what was written behind a head
pub behind_head : (shown : Result Bool Stop) (before middle after : Option (List ℕ)) (head : List ℕ) (Is : List ℕ → Bool → Type 0) → Appends before middle head
    → IfOk shown (λ bad. (text : List ℕ) × Appends middle after text × Is text bad) → IfOk shown (λ bad. (text : List ℕ) × Appends before after (head ++ text) × Is text bad)
behind_head (Ok bad) before middle after head Is first items = (items.0, appends_then before middle after head items.0 first items.1, items.2)
behind_head (Err stop) before middle after head Is first items = items

-- what a blank sheet wrote is what its items are
pub sheet_written : (manner : Manner) (path bytes : List ℕ) (bad : Bool) (before after : Option (List ℕ)) (blank full : Sheet)
    → blank.path.now ≡ path → blank.manner ≡ manner → blank.out.items ≡ [] → blank.items ≡ 0 → blank.has_bad ≡ false
    → ShowsFile (name_of path) bytes before after blank full → full.out.items ≡ [] → bad ≡ full.has_bad
    → (text : List ℕ) × Appends before after text × IsWritten manner text path bytes bad
sheet_written manner path bytes bad before after blank full path_is manner_is none no_items sound shows left tells =
    let items = shows.0 in
    let T : Manner → List ℕ → ℕ → Type 0 = λ (m : Manner) (p : List ℕ) (n : ℕ). Appends before after (items_text m p n items) in
    let written : T blank.manner blank.path.now blank.items =
    on_pages_alone before after blank.out.items full.out.items (items_text blank.manner blank.path.now blank.items items) none left shows.2.text in
    let by_manner : T manner blank.path.now blank.items = subst (λ (m : Manner). T m blank.path.now blank.items) manner_is written in
    let by_path : T manner path blank.items = subst (λ (p : List ℕ). T manner p blank.items) path_is by_manner in
    let text : T manner path 0 = subst (λ (n : ℕ). T manner path n) no_items by_path in (
      items_text manner path 0 items,
      text,
      record {
        items = items;
        are = shows.1;
        is = refl;
        named_by = subst (λ (m : Manner). AreNamedBy (smbios_of m) items) manner_is shows.2.named_by;
        tells = tells ∙ shows.2.has_bad ∙ ap (λ (b : Bool). bad_after b items) sound;
      },
    )

-- a page of which a part was written
pub page_begun : (before now after : Option (List ℕ)) (page part rest : List ℕ) → Appends before now part → Keeps now after → page ≡ part ++ rest
    → IsBegun before (append_known before page) after
page_begun None now after page part rest first keeps same = record { grows = ([], tt); begins = tt }
page_begun (Some old) None after page part rest first keeps same = absurd first
page_begun (Some old) (Some now) None page part rest first keeps same = absurd keeps
page_begun (Some old) (Some now) (Some new) page part rest first keeps same = record {
  grows = (part, keeps ∙ first);
  begins = (rest, ap (λ (t : List ℕ). old ++ t) same ∙ sym (append_assoc old part rest) ∙ ap (λ (t : List ℕ). t ++ rest) (sym (keeps ∙ first)));
}

pub keeps_same : (a : Option (List ℕ)) → Keeps a a
keeps_same None = tt
keeps_same (Some one) = refl

pub appends_none : (a : Option (List ℕ)) → Appends a a []
appends_none None = tt
appends_none (Some one) = sym (append-nil one)

-- what a blank sheet had written when a page could not be
pub sheet_begun : (manner : Manner) (path bytes : List ℕ) (before after : Option (List ℕ)) (blank : Sheet)
    → blank.path.now ≡ path → blank.manner ≡ manner → blank.out.items ≡ [] → blank.items ≡ 0
    → StopsFile (name_of path) bytes before after blank → StopsWriting manner [] path bytes before after
sheet_begun manner path bytes before after blank path_is manner_is none no_items stops =
    let items = stops.1.0 in
    let T : Option (List ℕ) → Manner → List ℕ → ℕ → Type 0 = λ (b : Option (List ℕ)) (m : Manner) (p : List ℕ) (n : ℕ). IsBegun before (append_known b (items_text m p n items)) after in
    let by_sheet : T (append_known before []) blank.manner blank.path.now blank.items =
    subst (λ (out : List ℕ). T (append_known before out) blank.manner blank.path.now blank.items) none stops.1.2.begun in
    let by_pages : T before blank.manner blank.path.now blank.items = subst (λ (b : Option (List ℕ)). T b blank.manner blank.path.now blank.items) (nothing_behind before) by_sheet in
    let by_manner : T before manner blank.path.now blank.items = subst (λ (m : Manner). T before m blank.path.now blank.items) manner_is by_pages in
    let by_path : T before manner path blank.items = subst (λ (p : List ℕ). T before manner p blank.items) path_is by_manner in
    record {
      items = items;
      are = inr (stops.0, stops.1.1);
      begun = subst (λ (n : ℕ). T before manner path n) no_items by_path;
      named_by = subst (λ (m : Manner). AreNamedBy (smbios_of m) items) manner_is stops.1.2.named_by;
    }

-- a stop at the head, and one at the items behind it
pub head_begun : (manner : Manner) (head path bytes : List ℕ) (before after : Option (List ℕ)) → IsBegun before (append_known before head) after
    → StopsWriting manner head path bytes before after
head_begun manner head path bytes before after begun = record {
  items = [];
  are = inl refl;
  begun = begun_more before after before head [] begun;
  named_by = tt;
}

pub items_begun : (manner : Manner) (head path bytes : List ℕ) (before middle after : Option (List ℕ)) → Appends before middle head
    → StopsWriting manner [] path bytes middle after → StopsWriting manner head path bytes before after
items_begun manner head path bytes before middle after first stops = record {
  items = stops.items;
  are = stops.are;
  begun = begun_then before middle after before middle head (items_text manner path 0 stops.items) (head, first) first stops.begun;
  named_by = stops.named_by;
}

-- a further part of it
pub part_written : (before now after : Option (List ℕ)) (page part rest : List ℕ) (taken : ℕ) (left : List ℕ) → left ≡ drop taken rest → Appends before now part
    → Appends now after (take taken rest) → page ≡ part ++ rest → (more : List ℕ) × Appends before after more × (page ≡ more ++ left)
part_written before now after page part rest taken left behind first then same = (
  part ++ take taken rest,
  appends_then before now after part (take taken rest) first then,
  same ∙ ap (λ (t : List ℕ). part ++ t) (sym (take-append-drop taken rest)) ∙ sym (append_assoc part (take taken rest) (drop taken rest))
      ∙ ap (λ (t : List ℕ). (part ++ take taken rest) ++ t) (sym behind),
)

-- all of it
pub all_written : (before now : Option (List ℕ)) (page part rest : List ℕ) → Appends before now part → page ≡ part ++ rest → length rest ≡ 0 → Appends before now page
all_written before now page part [] first same none = subst (λ (t : List ℕ). Appends before now t) (sym (same ∙ append-nil part)) first
all_written before now page part (byte ∷ rest) first same none = absurd (omega (arith, none))

pub fails : {T E : Type 0} → (result : Result T E) (Fact : Type 0) → Fact → OnErr result Fact
fails (Ok value) Fact fact = tt
fails (Err error) Fact fact = fact
