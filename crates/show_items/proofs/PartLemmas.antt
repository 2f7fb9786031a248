-- The parts that sections name, one after another.
use Rattle.std.proofs.Common.{◌≡◌, ◌∙◌, ℕ, zero, suc, ◌+◌, ◌<◌, ◌≤◌, List, [], ◌∷◌, ◌++◌, length, drop, get_or, Option, Some, inl, inr, refl, sym, ap, subst, append-nil, append_assoc, arith}
use Rattle.std.proofs.Math.Seq.{drop-cons}
use Rattle.std.proofs.lemmas.List.{drop_all}
use Rattle.base_model.specs.Bytes.{part}
use Rattle.show_findings.specs.Places.{HasDataEntry, HasSection, IsDataEntry, IsSection, data_part}
use Rattle.show_items.specs.Blocks.{ArePartsBehind, entry_body, entry_body_at, entry_body_len, entry_end, entry_guid, entry_head}
use Rattle.show_items.specs.Parts.{ArePartsOf, part_group, part_groups}
use Rattle.show_items.specs.Sheets.{AddsGroups, GroupsBegun}
use Rattle.show_items.specs.declared.sheet.Sheet.{Sheet}
use Rattle.show_items.proofs.BeginningLemmas.{added_and_stopped, same_begun, turned_and_begun}
use Rattle.show_items.proofs.ItemLemmas.{same_groups, turned_and_more}
use Rattle.show_items.proofs.SheetLemmas.{no_groups}
use Rattle.show_items.specs.Records.{ArePartsFrom, descriptor_of, section_body, section_offset, section_type}
use Rattle.show_items.specs.declared.parts.Part.{Part}

-- what is found of a section is what a record of these bytes has
pub of_section : (table bytes guid : List ℕ) (index at : ℕ) (descriptor : List ℕ) (body_at : ℕ) (body : List ℕ) (some : List Part)
    → IsSection bytes index at descriptor body_at body → guid ≡ part descriptor 16 16 → ArePartsOf guid table body index body_at some
    → ArePartsOf (section_type bytes index) table (section_body bytes index) index (section_offset bytes index) some
of_section table bytes guid index at descriptor body_at body some is kind are =
    let by_kind : ArePartsOf (section_type bytes index) table body index body_at some =
    subst (λ (it : List ℕ). ArePartsOf it table body index body_at some) (kind ∙ ap (λ (d : List ℕ). part d 16 16) is.head) are in
    let by_body : ArePartsOf (section_type bytes index) table (section_body bytes index) index body_at some =
    subst (λ (it : List ℕ). ArePartsOf (section_type bytes index) table it index body_at some) is.content by_kind in
    subst (λ (it : ℕ). ArePartsOf (section_type bytes index) table (section_body bytes index) index it some) is.offset by_body

-- those of a section, and of the sections behind it
pub one_section_more : (table bytes : List ℕ) (count left index : ℕ) (some more : List Part) → count ≡ suc left → HasSection bytes index
    → ArePartsOf (section_type bytes index) table (section_body bytes index) index (section_offset bytes index) some
    → ArePartsFrom table bytes left (index + 1) more → ArePartsFrom table bytes count index (some ++ more)
one_section_more table bytes (suc count) left index some more one has first then =
    let same : left ≡ count = omega (arith, one) in
    inr (has, (some, more, first, subst (λ (n : ℕ). ArePartsFrom table bytes n (index + 1) more) same then, refl))
one_section_more table bytes zero left index some more one has first then = absurd (omega (arith, one))

-- none is left
pub no_section_left : (table bytes : List ℕ) (count index : ℕ) → (HasSection bytes index → ⊥) → ArePartsFrom table bytes count index []
no_section_left table bytes zero index none = refl
no_section_left table bytes (suc count) index none = inl (none, refl)

pub none_counted : (table bytes : List ℕ) (count index : ℕ) → count ≡ 0 → ArePartsFrom table bytes count index []
none_counted table bytes zero index none = refl
none_counted table bytes (suc count) index none = absurd (omega (arith, none))

-- the same of the entries of a block
pub of_entry : (table block guid : List ℕ) (index at : ℕ) (head : List ℕ) (body_at : ℕ) (body : List ℕ) (next : ℕ) (some : List Part)
    → IsDataEntry block at head body_at body next → guid ≡ part head 0 16 → ArePartsOf guid table body index body_at some
    → ArePartsOf (entry_guid block at) table (entry_body block at) index (entry_body_at block at) some
of_entry table block guid index at head body_at body next some is kind are =
    let content : body ≡ entry_body block at = is.content ∙ ap (λ (a : ℕ). part (data_part block) a (entry_body_len block at)) is.offset in
    let by_kind : ArePartsOf (entry_guid block at) table body index body_at some =
    subst (λ (it : List ℕ). ArePartsOf it table body index body_at some) (kind ∙ ap (λ (h : List ℕ). part h 0 16) is.head_is) are in
    let by_body : ArePartsOf (entry_guid block at) table (entry_body block at) index body_at some =
    subst (λ (it : List ℕ). ArePartsOf (entry_guid block at) table it index body_at some) content by_kind in
    subst (λ (it : ℕ). ArePartsOf (entry_guid block at) table (entry_body block at) index it some) is.offset by_body

pub one_entry_more : (table block : List ℕ) (most left index at next : ℕ) (some more : List Part) → most ≡ suc left → HasDataEntry block at
    → next ≡ entry_end block at → ArePartsOf (entry_guid block at) table (entry_body block at) index (entry_body_at block at) some
    → ArePartsBehind table block left (index + 1) next more → ArePartsBehind table block most index at (some ++ more)
one_entry_more table block (suc most) left index at next some more one has behind first then =
    let same : left ≡ most = omega (arith, one) in
    let by_count : ArePartsBehind table block most (index + 1) next more = subst (λ (n : ℕ). ArePartsBehind table block n (index + 1) next more) same then in
    inr (has, (some, more, first, subst (λ (a : ℕ). ArePartsBehind table block most (index + 1) a more) behind by_count, refl))
one_entry_more table block zero left index at next some more one has behind first then = absurd (omega (arith, one))

pub no_entry_left : (table block : List ℕ) (most index at : ℕ) → (HasDataEntry block at → ⊥) → ArePartsBehind table block most index at []
no_entry_left table block zero index at none = refl
no_entry_left table block (suc most) index at none = inl (none, refl)

-- those that were found, and more behind them
pub found_then : (found some more next : List Part) (All : List Part → Type 0) → next ≡ found ++ some → All (found ++ (some ++ more)) → All (next ++ more)
found_then found some more next All same all =
    subst All (sym (append_assoc found some more) ∙ ap (λ (it : List Part). it ++ more) (sym same)) all

pub found_all : (found : List Part) (All : List Part → Type 0) → All (found ++ []) → All found
found_all found All all = subst All (append-nil found) all

-- the parts from a place on are the one there and those behind it
first_and_more : (parts : List Part) (index : ℕ) (other : Part) → index < length parts
    → part_group (get_or parts index other) ∷ part_groups (drop (index + 1) parts) ≡ part_groups (drop index parts)
first_and_more parts index other within =
    let next : index + 1 ≡ suc index = omega arith in
    ap (λ (n : ℕ). part_group (get_or parts index other) ∷ part_groups (drop n parts)) next
    ∙ ap (λ (it : List Part). part_groups it) (sym (drop-cons parts index other within))

pub next_added : (parts : List Part) (index : ℕ) (other : Part) (before middle after : Option (List ℕ)) (old added turned last : Sheet) → index < length parts
    → AddsGroups (part_group (get_or parts index other) ∷ []) (Some []) (Some []) old added → AddsGroups [] before middle added turned
    → AddsGroups (part_groups (drop (index + 1) parts)) middle after turned last → AddsGroups (part_groups (drop index parts)) before after old last
next_added parts index other before middle after old added turned last within adds turns then =
    same_groups _ _ before after old last (first_and_more parts index other within)
    (turned_and_more (part_group (get_or parts index other) ∷ []) (part_groups (drop (index + 1) parts)) before middle after old added turned last adds turns then)

pub next_begun : (parts : List Part) (index : ℕ) (other : Part) (before middle after : Option (List ℕ)) (old added turned : Sheet) → index < length parts
    → AddsGroups (part_group (get_or parts index other) ∷ []) (Some []) (Some []) old added → AddsGroups [] before middle added turned
    → GroupsBegun (part_groups (drop (index + 1) parts)) middle after turned → GroupsBegun (part_groups (drop index parts)) before after old
next_begun parts index other before middle after old added turned within adds turns then =
    same_begun _ _ before after old (first_and_more parts index other within)
    (turned_and_begun (part_group (get_or parts index other) ∷ []) (part_groups (drop (index + 1) parts)) before middle after old added turned adds turns then)

pub next_stopped : (parts : List Part) (index : ℕ) (other : Part) (before after : Option (List ℕ)) (old added : Sheet) → index < length parts
    → AddsGroups (part_group (get_or parts index other) ∷ []) (Some []) (Some []) old added → GroupsBegun [] before after added
    → GroupsBegun (part_groups (drop index parts)) before after old
next_stopped parts index other before after old added within adds stops =
    same_begun _ _ before after old (first_and_more parts index other within)
    (added_and_stopped (part_group (get_or parts index other) ∷ []) (part_groups (drop (index + 1) parts)) before after old added adds stops)

-- none is left
pub none_added : (parts : List Part) (index : ℕ) (written : Option (List ℕ)) (sheet : Sheet) → length parts ≤ index → AddsGroups (part_groups (drop index parts)) written written sheet sheet
none_added parts index written sheet over =
    same_groups [] (part_groups (drop index parts)) written written sheet sheet (ap (λ (it : List Part). part_groups it) (sym (drop_all index parts over))) (no_groups written sheet)
