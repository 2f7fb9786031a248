-- Items that are a header, or a sentence alone.
use Rattle.std.proofs.Common.{◌≡◌, ℕ, false, List, [], ◌∷◌, length, codes, Option, Some, None, is_some, refl, subst}
use Rattle.field_lines.specs.Layouts.{Structure}
use Rattle.show_findings.specs.declared.faults.Fault.{Fault}
use Rattle.show_items.specs.Groups.{fields_group, single}
use Rattle.show_items.specs.Headers.{IsHeader}
use Rattle.show_items.specs.Images.{IsFlash}
use Rattle.show_items.specs.Items.{Heading, Shown, smbios_of}
use Rattle.show_items.specs.Judged.{ShowsOne}
use Rattle.show_items.specs.Sheets.{AddsGroups, BeginsItem, EndsItem}
use Rattle.show_items.specs.declared.sheet.Sheet.{Sheet}
use Rattle.show_items.proofs.SheetLemmas.{item_shown, no_groups}

abbrev pub heading : (kind sentence bytes : List ℕ) → Heading
heading kind sentence bytes = record { kind = kind; at = Some 0; size = length bytes; sentence = sentence }

pub header_shown : (kind sentence : List ℕ) (structure : Structure) (body head bytes : List ℕ) (fault : Option Fault) (old begun grouped ended : Sheet)
    → body ≡ head → BeginsItem (heading kind sentence bytes) old begun
    → AddsGroups (fields_group (single (codes "header")) structure body ∷ []) (Some []) (Some []) begun grouped
    → EndsItem fault (is_some fault) grouped ended
    → ShowsOne (IsHeader kind structure head bytes fault) (Some []) (Some []) old ended
header_shown kind sentence structure body head bytes fault old begun grouped ended same begins adds ends =
    let item : Shown = record {
      heading = heading kind sentence bytes;
      groups = fields_group (single (codes "header")) structure head ∷ [];
      fault = fault;
      bad = is_some fault;
      smbios = smbios_of old.manner;
    } in
    let added : AddsGroups item.groups (Some []) (Some []) begun grouped =
    subst (λ (it : List ℕ). AddsGroups (fields_group (single (codes "header")) structure it ∷ []) (Some []) (Some []) begun grouped) same adds in
    let is : IsHeader kind structure head bytes fault item = record {
      heading = record { word = refl; place = refl; size = refl };
      groups = refl;
      told = refl;
      bad = refl;
    } in
    (item, is, item_shown item (Some []) (Some []) (Some []) old begun grouped ended ended begins added ends (no_groups (Some []) ended) refl)

pub flash_shown : (sentence image : List ℕ) (old begun ended : Sheet) → BeginsItem (heading (codes "image") sentence image) old begun → EndsItem None false begun ended
    → ShowsOne (IsFlash image) (Some []) (Some []) old ended
flash_shown sentence image old begun ended begins ends =
    let item : Shown = record {
      heading = heading (codes "image") sentence image;
      groups = [];
      fault = None;
      bad = false;
      smbios = smbios_of old.manner;
    } in
    let is : IsFlash image item = record {
      heading = record { word = refl; place = refl; size = refl };
      groups = refl;
      judged = record { none = refl; is_bad = refl };
    } in
    (item, is, item_shown item (Some []) (Some []) (Some []) old begun begun ended ended begins (no_groups (Some []) begun) ends (no_groups (Some []) ended) refl)
