use Rattle.std.proofs.Common.{false, List, [], ◌∷◌, ℕ, length, Some, None, refl, ap}
use Rattle.std.proofs.lemmas.Result.{on_ok_weaker}
use Rattle.show_items.specs.Items.{Shown, smbios_of}
use Rattle.show_items.specs.Records.{section_group}
use Rattle.show_items.proofs.ItemLemmas.{shown_alone}
use Rattle.show_items.proofs.singles.show_body.Goals as goal

pub returns : goal.returns
returns c =
    let bytes = c.args.bytes.now in
    let item : Shown = record {
      heading = record { kind = c.args.kind.now; at = Some 0; size = length bytes; sentence = c.args.sentence.now };
      groups = section_group 0 c.from_bytes.result 0 bytes ∷ [];
      fault = None;
      bad = false;
      smbios = smbios_of c.args.sheet.now.manner;
    } in
    on_ok_weaker c.end.result
    (λ ends. (
      item,
      record {
        heading = record { word = refl; place = refl; size = refl };
        groups = ap (λ (guid : List ℕ). section_group 0 guid 0 bytes ∷ []) c.from_bytes.ensures;
        judged = record { none = refl; is_bad = refl };
      },
      shown_alone item c.args.sheet.now c.begin.new.self c.add_section.new.sheet c.end.new.self c.in_ok-begin.ensures c.in_ok-add_section.ensures ends refl,
    ))
    c.end.ensures
