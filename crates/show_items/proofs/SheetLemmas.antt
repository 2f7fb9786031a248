-- What is added to a sheet and its pages, some after other.
use Rattle.std.proofs.Common.{◌≡◌, ◌∙◌, ℕ, Bool, true, false, ◌||◌, List, [], ◌∷◌, ◌++◌, Option, Some, None, refl, sym, ap, subst, append_assoc, append-nil}
use Rattle.std.specs.Io.KnownBytes.{Appends}
use Rattle.field_lines.specs.Layouts.{Structure}
use Rattle.show_items.specs.Beginnings.{Grows}
use Rattle.show_items.specs.Groups.{Group, Head, bytes_as, bytes_json, comma, fields_as, fields_json, groups_text, has_more, has_one_more, one_more}
use Rattle.show_items.specs.Items.{AreNamedBy, Shown, bad_after, count_after, counted, end_text, heading_text, item_text, items_text, smbios_of}
use Rattle.show_items.specs.Parts.{part_as, part_json}
use Rattle.show_items.specs.Sheets.{AddsGroups, BeginsItem, EndsItem, KeepsItem, ShowsItems, told}
use Rattle.show_items.specs.declared.sheet.Form.{Form}
use Rattle.show_items.specs.declared.sheet.Form.TheVariants.{Brief, Json}
use Rattle.show_items.specs.declared.parts.Named.{Named}
use Rattle.show_items.specs.declared.sheet.Manner.{Manner}
use Rattle.show_items.specs.declared.sheet.Sheet.{Sheet}
use Rattle.show_items.proofs.TextLemmas.{one_group}

-- known bytes grow by one text and then by another
pub appends_then : (a b c : Option (List ℕ)) (x y : List ℕ) → Appends a b x → Appends b c y → Appends a c (x ++ y)
appends_then None b c x y first then = tt
appends_then (Some one) (Some two) (Some three) x y first then = then ∙ ap (λ (t : List ℕ). t ++ y) first ∙ append_assoc one x y
appends_then (Some one) (Some two) None x y first then = absurd then
appends_then (Some one) None c x y first then = absurd first

-- known bytes grow, and grow again
pub grows_then : (a b c : Option (List ℕ)) → Grows a b → Grows b c → Grows a c
grows_then a b c first then = (first.0 ++ then.0, appends_then a b c first.0 then.0 first.1 then.1)

pub grows_by_none : (a : Option (List ℕ)) → Grows a a
grows_by_none None = ([], tt)
grows_by_none (Some bytes) = ([], sym (append-nil bytes))

-- the same text
pub appends_same : (a b : Option (List ℕ)) (x y : List ℕ) → x ≡ y → Appends a b x → Appends a b y
appends_same a b x y same appends = subst (λ (t : List ℕ). Appends a b t) same appends

-- a text on the sheet is one behind what was written
pub behind_written : (written : Option (List ℕ)) (old new : Sheet) (x : List ℕ) → new.out.items ≡ old.out.items ++ x → Appends (told written old) (told written new) x
behind_written None old new x grows = tt
behind_written (Some bytes) old new x grows = ap (λ (t : List ℕ). bytes ++ t) grows ∙ sym (append_assoc bytes old.out.items x)

pub kept : (old middle new : Sheet) → KeepsItem old middle → KeepsItem middle new → KeepsItem old new
kept old middle new first then = record {
  items = then.items ∙ first.items;
  bad = then.bad ∙ first.bad;
  path = then.path ∙ first.path;
  manner = then.manner ∙ first.manner;
}

pub kept_same : (sheet : Sheet) → KeepsItem sheet sheet
kept_same sheet = record {
  items = refl;
  bad = refl;
  path = refl;
  manner = refl;
}

-- groups
pub groups_text_then : (manner : Manner) (has : Bool) (some more : List Group)
    → groups_text manner has some ++ groups_text manner (has_more manner.form has some) more ≡ groups_text manner has (some ++ more)
groups_text_then manner has [] more = refl
groups_text_then manner has (group ∷ some) more =
    append_assoc (one_more manner.form has (group manner)) (groups_text manner (has_one_more manner.form has) some) _
    ∙ ap (λ (t : List ℕ). one_more manner.form has (group manner) ++ t) (groups_text_then manner (has_one_more manner.form has) some more)

has_more_then : (form : Form) (has : Bool) (some more : List Group) → has_more form (has_more form has some) more ≡ has_more form has (some ++ more)
has_more_then form has [] more = refl
has_more_then form has (group ∷ some) more = has_more_then form (has_one_more form has) some more

pub groups_then : (some more : List Group) (before middle after : Option (List ℕ)) (old between new : Sheet)
    → AddsGroups some before middle old between → AddsGroups more middle after between new → AddsGroups (some ++ more) before after old new
groups_then some more before middle after old between new first then =
    let T : Manner → Bool → Type 0 = λ (manner : Manner) (has : Bool). Appends (told middle between) (told after new) (groups_text manner has more) in
    let text : T old.manner (has_more old.manner.form old.has_groups some) =
    subst (λ (has : Bool). T old.manner has) first.more (subst (λ (manner : Manner). T manner between.has_groups) first.same.manner then.text) in
    record {
      text = appends_same (told before old) (told after new) _ _ (groups_text_then old.manner old.has_groups some more)
          (appends_then (told before old) (told middle between) (told after new) _ _ first.text text);
      grows = grows_then before middle after first.grows then.grows;
      more = then.more ∙ ap (λ (manner : Manner). has_more manner.form between.has_groups more) first.same.manner
          ∙ ap (λ (has : Bool). has_more old.manner.form has more) first.more ∙ has_more_then old.manner.form old.has_groups some more;
      same = kept old between new first.same then.same;
    }

-- what is added to the sheet alone is added to both
pub on_pages : (groups : List Group) (written : Option (List ℕ)) (old new : Sheet) → AddsGroups groups (Some []) (Some []) old new → AddsGroups groups written written old new
on_pages groups written old new adds = record {
  text = behind_written written old new (groups_text old.manner old.has_groups groups) adds.text;
  grows = grows_by_none written;
  more = adds.more;
  same = adds.same;
}

pub no_groups : (written : Option (List ℕ)) (sheet : Sheet) → AddsGroups [] written written sheet sheet
no_groups written sheet = record {
  text = behind_written written sheet sheet [] (sym (append-nil sheet.out.items));
  grows = grows_by_none written;
  more = refl;
  same = kept_same sheet;
}

brief_text : (manner : Manner) (has : Bool) (groups : List Group) → manner.form ≡ Brief → groups_text manner has groups ≡ []
brief_text manner has [] brief = refl
brief_text manner has (group ∷ groups) brief =
    let T : Form → Type 0 = λ (form : Form). one_more form has (group manner) ++ groups_text manner (has_one_more form has) groups ≡ [] in
    subst T (sym brief) (brief_text manner has groups brief)

brief_more : (form : Form) (has : Bool) (groups : List Group) → form ≡ Brief → has ≡ has_more form has groups
brief_more form has [] brief = refl
brief_more form has (group ∷ groups) brief =
    let T : Form → Type 0 = λ (it : Form). has ≡ has_more form (has_one_more it has) groups in
    subst T (sym brief) (brief_more form has groups brief)

-- in the brief form there are none
pub brief_adds_nothing : (groups : List Group) (written : Option (List ℕ)) (sheet : Sheet) → sheet.manner.form ≡ Brief → AddsGroups groups written written sheet sheet
brief_adds_nothing groups written sheet brief = record {
  text = behind_written written sheet sheet (groups_text sheet.manner sheet.has_groups groups)
      (sym (ap (λ (t : List ℕ). sheet.out.items ++ t) (brief_text sheet.manner sheet.has_groups groups brief) ∙ append-nil sheet.out.items));
  grows = grows_by_none written;
  more = brief_more sheet.manner.form sheet.has_groups groups brief;
  same = kept_same sheet;
}

-- a group in JSON, behind its comma
json_text : (form : Form) (has : Bool) (text : List ℕ) (old begun new : List ℕ) → form ≡ Json → begun ≡ old ++ comma has → new ≡ begun ++ text → new ≡ old ++ (one_more form has text ++ [])
json_text form has text old begun new json first second =
    let T : Form → Type 0 = λ (it : Form). new ≡ old ++ (one_more it has text ++ []) in
    subst T (sym json) (one_group old (comma has) text begun new first second)

json_more : (form : Form) (has now : Bool) → form ≡ Json → now ≡ true → now ≡ has_one_more form has
json_more form has now json begun =
    let T : Form → Type 0 = λ (it : Form). now ≡ has_one_more it has in
    subst T (sym json) begun

pub json_group : (group : Group) (old begun new : Sheet) (text : List ℕ) → old.manner.form ≡ Json → text ≡ group old.manner
    → begun.out.items ≡ old.out.items ++ comma old.has_groups → begun.has_groups ≡ true → KeepsItem old begun
    → new.out.items ≡ begun.out.items ++ text → new.has_groups ≡ begun.has_groups → KeepsItem begun new → AddsGroups (group ∷ []) (Some []) (Some []) old new
json_group group old begun new text json same before has kept_before added has_still kept_after = record {
  text = json_text old.manner.form old.has_groups (group old.manner) old.out.items begun.out.items new.out.items json before
      (added ∙ ap (λ (t : List ℕ). begun.out.items ++ t) same);
  grows = grows_by_none (Some []);
  more = json_more old.manner.form old.has_groups new.has_groups json (has_still ∙ has);
  same = kept old begun new kept_before kept_after;
}

pub fields_in_json : (form : Form) (places : Bool) (head : Head) (structure : Structure) (body : List ℕ) → form ≡ Json → fields_json head structure body ≡ fields_as form places head structure body
fields_in_json form places head structure body json =
    let T : Form → Type 0 = λ (it : Form). fields_json head structure body ≡ fields_as it places head structure body in
    subst T (sym json) refl

pub bytes_in_json : (form : Form) (places : Bool) (head : Head) (body : List ℕ) → form ≡ Json → bytes_json head body ≡ bytes_as form places head body
bytes_in_json form places head body json =
    let T : Form → Type 0 = λ (it : Form). bytes_json head body ≡ bytes_as it places head body in
    subst T (sym json) refl

pub part_in_json : (form : Form) (places : Bool) (head : Head) (part : Named) → form ≡ Json → part_json head part ≡ part_as form places head part
part_in_json form places head part json =
    let T : Form → Type 0 = λ (it : Form). part_json head part ≡ part_as it places head part in
    subst T (sym json) refl

-- an item that was begun, whose groups were added, that was ended, and of which a page may then have been written, is shown
pub item_shown : (item : Shown) (before middle after : Option (List ℕ)) (old begun grouped ended new : Sheet)
    → BeginsItem item.heading old begun → AddsGroups item.groups before middle begun grouped → EndsItem item.fault item.bad grouped ended
    → AddsGroups [] middle after ended new → item.smbios ≡ smbios_of old.manner → ShowsItems (item ∷ []) before after old new
item_shown item before middle after old begun grouped ended new begins adds ends turns named =
    let heading : List ℕ = heading_text old.manner old.path.now old.items item.heading in
    let groups : List ℕ = groups_text old.manner false item.groups in
    let end : List ℕ = end_text old.manner item.fault in
    let first : Appends (told before old) (told before begun) heading = behind_written before old begun heading begins.text in
    let G : Manner → Bool → Type 0 = λ (manner : Manner) (has : Bool). Appends (told before begun) (told middle grouped) (groups_text manner has item.groups) in
    let second : Appends (told before begun) (told middle grouped) groups =
    subst (λ (has : Bool). G old.manner has) begins.groups (subst (λ (manner : Manner). G manner begun.has_groups) begins.same.manner adds.text) in
    let manner : grouped.manner ≡ old.manner = adds.same.manner ∙ begins.same.manner in
    let third : Appends (told middle grouped) (told middle ended) end =
    subst (λ (manner : Manner). Appends (told middle grouped) (told middle ended) (end_text manner item.fault)) manner
    (behind_written middle grouped ended (end_text grouped.manner item.fault) ends.text) in
    let last : Appends (told middle ended) (told after new) [] = turns.text in
    record {
      text = appends_then (told before old) (told middle ended) (told after new) (item_text old.manner old.path.now old.items item) []
          (appends_then (told before old) (told middle grouped) (told middle ended) (heading ++ groups) end
          (appends_then (told before old) (told before begun) (told middle grouped) heading groups first second) third) last;
      grows = grows_then before middle after adds.grows turns.grows;
      count = turns.same.items ∙ ends.items ∙ ap (λ (n : ℕ). counted n 1) (adds.same.items ∙ begins.same.items);
      has_bad = turns.same.bad ∙ ends.has_bad ∙ ap (λ (b : Bool). item.bad || b) (adds.same.bad ∙ begins.same.bad);
      named_by = (named, tt);
      path = turns.same.path ∙ ends.path ∙ adds.same.path ∙ begins.same.path;
      manner = turns.same.manner ∙ ends.manner ∙ manner;
    }

-- items
pub items_text_then : (manner : Manner) (path : List ℕ) (count : ℕ) (some more : List Shown)
    → items_text manner path count some ++ items_text manner path (count_after count some) more ≡ items_text manner path count (some ++ more)
items_text_then manner path count [] more = refl
items_text_then manner path count (item ∷ some) more =
    append_assoc (item_text manner path count item) (items_text manner path (counted count 1) some) _
    ∙ ap (λ (t : List ℕ). item_text manner path count item ++ t) (items_text_then manner path (counted count 1) some more)

count_then : (count : ℕ) (some more : List Shown) → count_after (count_after count some) more ≡ count_after count (some ++ more)
count_then count [] more = refl
count_then count (item ∷ some) more = count_then (counted count 1) some more

bad_then : (bad : Bool) (some more : List Shown) → bad_after (bad_after bad some) more ≡ bad_after bad (some ++ more)
bad_then bad [] more = refl
bad_then bad (item ∷ some) more = bad_then (item.bad || bad) some more

pub named_then : (smbios : Option (List ℕ)) (some more : List Shown) → AreNamedBy smbios some → AreNamedBy smbios more → AreNamedBy smbios (some ++ more)
named_then smbios [] more first then = then
named_then smbios (item ∷ some) more first then = (first.0, named_then smbios some more first.1 then)

pub items_then : (some more : List Shown) (before middle after : Option (List ℕ)) (old between new : Sheet)
    → ShowsItems some before middle old between → ShowsItems more middle after between new → ShowsItems (some ++ more) before after old new
items_then some more before middle after old between new first then =
    let T : Manner → List ℕ → ℕ → Type 0 = λ (manner : Manner) (path : List ℕ) (count : ℕ). Appends (told middle between) (told after new) (items_text manner path count more) in
    let by_manner : T old.manner between.path.now between.items = subst (λ (manner : Manner). T manner between.path.now between.items) first.manner then.text in
    let by_path : T old.manner old.path.now between.items = subst (λ (path : List ℕ). T old.manner path between.items) (ap (λ p. p.now) first.path) by_manner in
    let text : T old.manner old.path.now (count_after old.items some) = subst (λ (count : ℕ). T old.manner old.path.now count) first.count by_path in
    record {
      text = appends_same (told before old) (told after new) _ _ (items_text_then old.manner old.path.now old.items some more)
          (appends_then (told before old) (told middle between) (told after new) _ _ first.text text);
      grows = grows_then before middle after first.grows then.grows;
      count = then.count ∙ ap (λ (n : ℕ). count_after n more) first.count ∙ count_then old.items some more;
      has_bad = then.has_bad ∙ ap (λ (b : Bool). bad_after b more) first.has_bad ∙ bad_then old.has_bad some more;
      named_by = named_then (smbios_of old.manner) some more first.named_by
          (subst (λ (manner : Manner). AreNamedBy (smbios_of manner) more) first.manner then.named_by);
      path = then.path ∙ first.path;
      manner = then.manner ∙ first.manner;
    }

pub one_and_more : (item : Shown) (more : List Shown) (before middle after : Option (List ℕ)) (old between new : Sheet)
    → ShowsItems (item ∷ []) before middle old between → ShowsItems more middle after between new → ShowsItems (item ∷ more) before after old new
one_and_more item more before middle after old between new first then = items_then (item ∷ []) more before middle after old between new first then

pub no_items : (written : Option (List ℕ)) (sheet : Sheet) → ShowsItems [] written written sheet sheet
no_items written sheet = record {
  text = behind_written written sheet sheet [] (sym (append-nil sheet.out.items));
  grows = grows_by_none written;
  count = refl;
  has_bad = refl;
  named_by = tt;
  path = refl;
  manner = refl;
}

-- what is shown on the sheet alone is shown on both
pub items_on_pages : (items : List Shown) (written : Option (List ℕ)) (old new : Sheet) → ShowsItems items (Some []) (Some []) old new → ShowsItems items written written old new
items_on_pages items written old new shows = record {
  text = behind_written written old new (items_text old.manner old.path.now old.items items) shows.text;
  grows = grows_by_none written;
  count = shows.count;
  has_bad = shows.has_bad;
  named_by = shows.named_by;
  path = shows.path;
  manner = shows.manner;
}

-- a page that was written afterwards changes nothing of it
pub shown_and_turned : (items : List Shown) (before middle after : Option (List ℕ)) (old between new : Sheet)
    → ShowsItems items before middle old between → AddsGroups [] middle after between new → ShowsItems items before after old new
shown_and_turned items before middle after old between new shows turns = record {
  text = appends_same (told before old) (told after new) _ _ (append-nil (items_text old.manner old.path.now old.items items))
      (appends_then (told before old) (told middle between) (told after new) _ [] shows.text turns.text);
  grows = grows_then before middle after shows.grows turns.grows;
  count = turns.same.items ∙ shows.count;
  has_bad = turns.same.bad ∙ shows.has_bad;
  named_by = shows.named_by;
  path = turns.same.path ∙ shows.path;
  manner = turns.same.manner ∙ shows.manner;
}
