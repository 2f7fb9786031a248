use Rattle.std.proofs.Common.{true, List, [], ◌∷◌, ◌∙◌, ℕ, length, codes, Some, None, refl, ap}
use Rattle.std.proofs.lemmas.Result.{on_ok_weaker}
use Rattle.show_items.specs.Groups.{bytes_group, single}
use Rattle.show_items.specs.Items.{Shown, smbios_of}
use Rattle.show_items.proofs.ItemLemmas.{first_part, shown_alone}
use Rattle.show_items.proofs.singles.show_unknown.Goals as goal

pub returns : goal.returns
returns c =
    let bytes = c.args.bytes.now in
    let item : Shown = record {
      heading = record { kind = codes "none"; at = Some c.args.at; size = length bytes; sentence = c.as_str.result.now };
      groups = bytes_group (single (codes "bytes")) c.seen_at.result.now ∷ [];
      fault = None;
      bad = true;
      smbios = smbios_of c.args.sheet.now.manner;
    } in
    on_ok_weaker c.end_as_bad.result
    (λ ends. (
      item,
      record {
        heading = record { word = refl; place = refl; size = refl };
        groups = ap (λ (first : List ℕ). bytes_group (single (codes "bytes")) first ∷ []) (c.seen_at.ensures ∙ first_part bytes 16);
        judged = record { none = refl; is_bad = refl };
      },
      shown_alone item c.args.sheet.now c.begin.new.self c.add_bytes.new.self c.end_as_bad.new.self c.in_ok-begin.ensures c.in_ok-add_bytes.ensures ends refl,
    ))
    c.end_as_bad.ensures
