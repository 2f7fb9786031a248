use Rattle.std.proofs.Common.{false, [], length, Some, None, refl}
use Rattle.std.proofs.lemmas.Result.{on_ok_weaker}
use Rattle.show_items.specs.Items.{Shown, smbios_of}
use Rattle.show_items.proofs.ItemLemmas.{shown_alone}
use Rattle.show_items.proofs.SheetLemmas.{no_groups}
use Rattle.show_items.proofs.singles.show_sentence.Goals as goal

pub returns : goal.returns
returns c =
    let item : Shown = record {
      heading = record { kind = c.args.kind.now; at = Some c.args.at; size = length c.args.bytes.now; sentence = c.args.sentence.now };
      groups = [];
      fault = None;
      bad = false;
      smbios = smbios_of c.args.sheet.now.manner;
    } in
    on_ok_weaker c.end.result
    (λ ends. (
      item,
      record {
        heading = record { word = refl; place = refl; size = refl };
        groups = refl;
        judged = record { none = refl; is_bad = refl };
      },
      shown_alone item c.args.sheet.now c.begin.new.self c.begin.new.self c.end.new.self c.in_ok-begin.ensures (no_groups (Some []) c.begin.new.self) ends refl,
    ))
    c.end.ensures
