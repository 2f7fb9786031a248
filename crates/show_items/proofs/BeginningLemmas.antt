-- What was written of a whole text when a page could not be: the beginnings of it.
use Rattle.std.proofs.Common.{◌≡◌, ◌≢◌, ◌∙◌, ℕ, false, List, [], ◌∷◌, ◌++◌, Option, Some, None, Result, Ok, Err, IsErrAnd, OnErr, sym, ap, subst, append_assoc, append-nil, Bool}
use Rattle.std.specs.Io.KnownBytes.{Appends, append_known}
use Rattle.show_items.specs.Beginnings.{Grows, IfStopped, IsBeginning, IsBegun}
use Rattle.show_items.specs.Groups.{Group, groups_text, has_more}
use Rattle.show_items.specs.Items.{AreNamedBy, Shown, count_after, end_text, heading_text, items_text, smbios_of}
use Rattle.show_items.specs.Sheets.{AddsGroups, BeginsItem, EndsItem, GroupsBegun, ItemsBegun, ShowsItems, told}
use Rattle.show_items.specs.declared.pages.Stop.{Stop}
use Rattle.show_items.specs.declared.pages.Stop.TheVariants.{Memory}
use Rattle.show_items.specs.declared.sheet.Manner.{Manner}
use Rattle.show_items.specs.declared.sheet.Sheet.{Sheet}
use Rattle.show_items.proofs.SheetLemmas.{behind_written, groups_text_then, grows_by_none, grows_then, item_shown, items_text_then, named_then, no_groups, on_pages}

-- what follows of a stop of a call follows of its result
pub if_stopped : {T : Type 0} → (result : Result T Stop) (Begun More : Type 0) → (Begun → More) → IfStopped result Begun → IfStopped result More
if_stopped (Ok value) Begun More so stopped = tt
if_stopped (Err stop) Begun More so stopped = λ no_memory. so (stopped no_memory)

-- the same where the result is that of another call
pub stopped_so : {T : Type 0} → (result : Result T Stop) (stop : Stop) (Begun More : Type 0) → IsErrAnd result (λ it. it ≡ stop) → (Begun → More)
    → (stop ≢ Memory → Begun) → IfStopped result More
stopped_so (Ok value) stop Begun More same so stopped = tt
stopped_so (Err it) stop Begun More same so stopped = λ no_memory. so (stopped (λ is. no_memory (same ∙ is)))

pub if_failed : {T : Type 0} → (result : Result T Stop) (Begun More : Type 0) → (Begun → More) → OnErr result Begun → IfStopped result More
if_failed (Ok value) Begun More so failed = tt
if_failed (Err stop) Begun More so failed = λ no_memory. so failed

pub stops : {T : Type 0} → (result : Result T Stop) (Begun : Type 0) → Begun → IfStopped result Begun
stops (Ok value) Begun begun = tt
stops (Err stop) Begun begun = λ no_memory. begun

-- a beginning of what had to be written behind a text that was
begins_then : (a b after : Option (List ℕ)) (x y : List ℕ) → Appends a b x → IsBeginning (append_known b y) after → IsBeginning (append_known a (x ++ y)) after
begins_then None b after x y first begins = tt
begins_then (Some one) None after x y first begins = absurd first
begins_then (Some one) (Some two) None x y first begins = absurd begins
begins_then (Some one) (Some two) (Some three) x y first begins = (begins.0, sym (append_assoc one x y) ∙ sym (ap (λ (t : List ℕ). t ++ y) first) ∙ begins.1)

-- a beginning of a text is one of a longer text
begins_more : (a after : Option (List ℕ)) (x y : List ℕ) → IsBeginning (append_known a x) after → IsBeginning (append_known a (x ++ y)) after
begins_more None after x y begins = tt
begins_more (Some one) None x y begins = absurd begins
begins_more (Some one) (Some two) x y begins = (begins.0 ++ y, sym (append_assoc one x y) ∙ ap (λ (t : List ℕ). t ++ y) begins.1 ∙ append_assoc two begins.0 y)

pub begun_then : (before middle after a b : Option (List ℕ)) (x y : List ℕ) → Grows before middle → Appends a b x → IsBegun middle (append_known b y) after
    → IsBegun before (append_known a (x ++ y)) after
begun_then before middle after a b x y grows first begun = record {
  grows = grows_then before middle after grows begun.grows;
  begins = begins_then a b after x y first begun.begins;
}

pub begun_more : (before after a : Option (List ℕ)) (x y : List ℕ) → IsBegun before (append_known a x) after → IsBegun before (append_known a (x ++ y)) after
begun_more before after a x y begun = record {
  grows = begun.grows;
  begins = begins_more a after x y begun.begins;
}

pub begun_same : (before after a : Option (List ℕ)) (x y : List ℕ) → x ≡ y → IsBegun before (append_known a x) after → IsBegun before (append_known a y) after
begun_same before after a x y same begun = subst (λ (t : List ℕ). IsBegun before (append_known a t) after) same begun

-- groups
pub groups_begun_then : (some more : List Group) (before middle after : Option (List ℕ)) (old between : Sheet)
    → AddsGroups some before middle old between → GroupsBegun more middle after between → GroupsBegun (some ++ more) before after old
groups_begun_then some more before middle after old between first begun =
    let T : Manner → Bool → Type 0 = λ (manner : Manner) (has : Bool). IsBegun middle (append_known (told middle between) (groups_text manner has more)) after in
    let text : T old.manner (has_more old.manner.form old.has_groups some) =
    subst (λ (has : Bool). T old.manner has) first.more (subst (λ (manner : Manner). T manner between.has_groups) first.same.manner begun) in
    begun_same before after (told before old) _ _ (groups_text_then old.manner old.has_groups some more)
    (begun_then before middle after (told before old) (told middle between) _ _ first.grows first.text text)

pub groups_begun_more : (some more : List Group) (before after : Option (List ℕ)) (old : Sheet) → GroupsBegun some before after old → GroupsBegun (some ++ more) before after old
groups_begun_more some more before after old begun =
    begun_same before after (told before old) _ _ (groups_text_then old.manner old.has_groups some more) (begun_more before after (told before old) _ _ begun)

pub same_begun : (some more : List Group) (before after : Option (List ℕ)) (old : Sheet) → some ≡ more → GroupsBegun some before after old → GroupsBegun more before after old
same_begun some more before after old same begun = subst (λ (groups : List Group). GroupsBegun groups before after old) same begun

-- groups were added to the sheet alone, and then a page could not be written
pub added_and_stopped : (some more : List Group) (before after : Option (List ℕ)) (old added : Sheet)
    → AddsGroups some (Some []) (Some []) old added → GroupsBegun [] before after added → GroupsBegun (some ++ more) before after old
added_and_stopped some more before after old added adds begun =
    groups_begun_then some more before before after old added (on_pages some before old added adds) (groups_begun_more [] more before after added begun)

-- or those behind them, after a page was written
pub turned_and_begun : (some more : List Group) (before middle after : Option (List ℕ)) (old added turned : Sheet)
    → AddsGroups some (Some []) (Some []) old added → AddsGroups [] before middle added turned → GroupsBegun more middle after turned
    → GroupsBegun (some ++ more) before after old
turned_and_begun some more before middle after old added turned adds turns begun =
    groups_begun_then some more before before after old added (on_pages some before old added adds)
    (groups_begun_then [] more before middle after added turned turns begun)

-- an item was begun, and then a page of its groups could not be written
pub item_begun : (item : Shown) (before after : Option (List ℕ)) (old begun : Sheet)
    → BeginsItem item.heading old begun → item.smbios ≡ smbios_of old.manner → GroupsBegun item.groups before after begun
    → ItemsBegun (item ∷ []) before after old
item_begun item before after old begun begins named stops =
    let heading : List ℕ = heading_text old.manner old.path.now old.items item.heading in
    let groups : List ℕ = groups_text old.manner false item.groups in
    let end : List ℕ = end_text old.manner item.fault in
    let T : Manner → Bool → Type 0 = λ (manner : Manner) (has : Bool). IsBegun before (append_known (told before begun) (groups_text manner has item.groups)) after in
    let text : T old.manner false = subst (λ (has : Bool). T old.manner has) begins.groups (subst (λ (manner : Manner). T manner begun.has_groups) begins.same.manner stops) in
    record {
      begun = begun_more before after (told before old) (heading ++ groups ++ end) []
          (begun_more before after (told before old) (heading ++ groups) end
          (begun_then before before after (told before old) (told before begun) heading groups (grows_by_none before)
          (behind_written before old begun heading begins.text) text));
      named_by = (named, tt);
    }

-- items were shown, and then a page could not be written
pub shown_and_stopped : (items : List Shown) (before middle after : Option (List ℕ)) (old between : Sheet)
    → ShowsItems items before middle old between → GroupsBegun [] middle after between → ItemsBegun items before after old
shown_and_stopped items before middle after old between shows begun = record {
  begun = begun_same before after (told before old) _ _ (append-nil (items_text old.manner old.path.now old.items items))
      (begun_then before middle after (told before old) (told middle between) (items_text old.manner old.path.now old.items items) []
      shows.grows shows.text begun);
  named_by = shows.named_by;
}

pub item_stopped : (item : Shown) (before middle after : Option (List ℕ)) (old begun grouped ended : Sheet)
    → BeginsItem item.heading old begun → AddsGroups item.groups before middle begun grouped → EndsItem item.fault item.bad grouped ended
    → item.smbios ≡ smbios_of old.manner → GroupsBegun [] middle after ended → ItemsBegun (item ∷ []) before after old
item_stopped item before middle after old begun grouped ended begins adds ends named stops =
    shown_and_stopped (item ∷ []) before middle after old ended
    (item_shown item before middle middle old begun grouped ended ended begins adds ends (no_groups middle ended) named) stops

-- items, and those behind them
pub items_begun_then : (some more : List Shown) (before middle after : Option (List ℕ)) (old between : Sheet)
    → ShowsItems some before middle old between → ItemsBegun more middle after between → ItemsBegun (some ++ more) before after old
items_begun_then some more before middle after old between first begun =
    let T : Manner → List ℕ → ℕ → Type 0 = λ (manner : Manner) (path : List ℕ) (count : ℕ). IsBegun middle (append_known (told middle between) (items_text manner path count more)) after in
    let by_manner : T old.manner between.path.now between.items = subst (λ (manner : Manner). T manner between.path.now between.items) first.manner begun.begun in
    let by_path : T old.manner old.path.now between.items = subst (λ (path : List ℕ). T old.manner path between.items) (ap (λ p. p.now) first.path) by_manner in
    let text : T old.manner old.path.now (count_after old.items some) = subst (λ (count : ℕ). T old.manner old.path.now count) first.count by_path in
    record {
      begun = begun_same before after (told before old) _ _ (items_text_then old.manner old.path.now old.items some more)
          (begun_then before middle after (told before old) (told middle between) _ _ first.grows first.text text);
      named_by = named_then (smbios_of old.manner) some more first.named_by
          (subst (λ (manner : Manner). AreNamedBy (smbios_of manner) more) first.manner begun.named_by);
    }
