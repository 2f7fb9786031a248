use Rattle.std.proofs.Common.{ℕ, List, [], ◌++◌, length, codes, Option, is_some, refl, subst}
use Rattle.std.proofs.lemmas.Result.{on_ok_weaker}
use Rattle.show_items.specs.Items.{Shown, smbios_of}
use Rattle.show_items.specs.Parts.{part_groups}
use Rattle.show_items.specs.Blocks.{block_groups}
use Rattle.show_items.specs.Sheets.{AddsGroups, GroupsBegun}
use Rattle.show_items.specs.declared.parts.Part.{Part}
use Rattle.show_items.proofs.BeginningLemmas.{if_failed, item_begun, item_stopped, stopped_so}
use Rattle.show_items.proofs.SheetLemmas.{item_shown}
use Rattle.show_items.proofs.blocks.show_block.Goals as goal

pub returns-clause-shown : goal.returns-clause-shown
returns-clause-shown g c =
    let bytes = c.args.bytes.now in
    let parts = c.in_ok-parts.parts.items in
    let item : Shown = record {
      heading = record { kind = codes "block"; at = c.args.at; size = length bytes; sentence = c.as_str.result.now };
      groups = block_groups bytes ++ part_groups parts;
      fault = c.in_ok-fault.fault;
      bad = is_some c.in_ok-fault.fault;
      smbios = smbios_of c.args.sheet.now.manner;
    } in
    let before : Option (List ℕ) = g.P.Pages.written c.args.pages.now in
    let middle : Option (List ℕ) = g.P.Pages.written c.add_groups.new.pages in
    let after : Option (List ℕ) = g.P.Pages.written c.turn.new.pages in
    let added : AddsGroups item.groups before middle c.begin.new.self c.add_groups.new.sheet =
    subst (λ (some : List Part). AddsGroups (block_groups bytes ++ part_groups some) before middle c.begin.new.self c.add_groups.new.sheet) c.deref.ensures.value
    c.in_ok-add_groups.ensures.groups in
    on_ok_weaker c.turn.result
    (λ turns. (
      item,
      record {
        heading = record { word = refl; place = refl; size = refl };
        sentence = record {
          before = c.new-sentence.result;
          after = c.add_block.new.out;
          blank = c.new-sentence.ensures.bytes;
          whole = c.as_str.ensures.value;
          adds = record {
            cut = c.in_ok-add_block.ensures.cut;
            bare = c.in_ok-add_block.ensures.bare;
            worst = c.in_ok-add_block.ensures.worst;
          };
        };
        parts = parts;
        are_parts = c.in_ok-parts.ensures;
        groups = refl;
        judged = record { finding = c.in_ok-fault.ensures; bad = refl };
      },
      item_shown item before middle after c.args.sheet.now c.begin.new.self c.add_groups.new.sheet c.end.new.self c.turn.new.self
          c.in_ok-begin.ensures added c.in_ok-end.ensures turns refl,
    ))
    c.turn.ensures.turned

pub returns-in_err-add_groups-clause-stopped : goal.returns-in_err-add_groups-clause-stopped
returns-in_err-add_groups-clause-stopped g c =
    let bytes = c.args.bytes.now in
    let parts = c.in_ok-parts.parts.items in
    let item : Shown = record {
      heading = record { kind = codes "block"; at = c.args.at; size = length bytes; sentence = c.as_str.result.now };
      groups = block_groups bytes ++ part_groups parts;
      fault = c.in_ok-fault.fault;
      bad = is_some c.in_ok-fault.fault;
      smbios = smbios_of c.args.sheet.now.manner;
    } in
    let before : Option (List ℕ) = g.P.Pages.written c.args.pages.now in
    let after : Option (List ℕ) = g.P.Pages.written c.add_groups.new.pages in
    let Begun : List Part → Type 0 = λ (some : List Part). GroupsBegun (block_groups bytes ++ part_groups some) before after c.begin.new.self in
    stopped_so c.from_residual-in_err-add_groups.result c.in_err-add_groups.field-0.0 (Begun c.deref.result.now) _
    c.from_residual-in_err-add_groups.ensures.1
    (λ groups. (
      item,
      record {
        heading = record { word = refl; place = refl; size = refl };
        sentence = record {
          before = c.new-sentence.result;
          after = c.add_block.new.out;
          blank = c.new-sentence.ensures.bytes;
          whole = c.as_str.ensures.value;
          adds = record {
            cut = c.in_ok-add_block.ensures.cut;
            bare = c.in_ok-add_block.ensures.bare;
            worst = c.in_ok-add_block.ensures.worst;
          };
        };
        parts = parts;
        are_parts = c.in_ok-parts.ensures;
        groups = refl;
        judged = record { finding = c.in_ok-fault.ensures; bad = refl };
      },
      item_begun item before after c.args.sheet.now c.begin.new.self c.in_ok-begin.ensures refl (subst Begun c.deref.ensures.value groups),
    ))
    c.in_err-add_groups.ensures.stopped

pub returns-clause-stopped : goal.returns-clause-stopped
returns-clause-stopped g c =
    let bytes = c.args.bytes.now in
    let parts = c.in_ok-parts.parts.items in
    let item : Shown = record {
      heading = record { kind = codes "block"; at = c.args.at; size = length bytes; sentence = c.as_str.result.now };
      groups = block_groups bytes ++ part_groups parts;
      fault = c.in_ok-fault.fault;
      bad = is_some c.in_ok-fault.fault;
      smbios = smbios_of c.args.sheet.now.manner;
    } in
    let before : Option (List ℕ) = g.P.Pages.written c.args.pages.now in
    let middle : Option (List ℕ) = g.P.Pages.written c.add_groups.new.pages in
    let after : Option (List ℕ) = g.P.Pages.written c.turn.new.pages in
    let added : AddsGroups item.groups before middle c.begin.new.self c.add_groups.new.sheet =
    subst (λ (some : List Part). AddsGroups (block_groups bytes ++ part_groups some) before middle c.begin.new.self c.add_groups.new.sheet) c.deref.ensures.value
    c.in_ok-add_groups.ensures.groups in
    if_failed c.turn.result (GroupsBegun [] middle after c.end.new.self) _
    (λ begun. (
      item,
      record {
        heading = record { word = refl; place = refl; size = refl };
        sentence = record {
          before = c.new-sentence.result;
          after = c.add_block.new.out;
          blank = c.new-sentence.ensures.bytes;
          whole = c.as_str.ensures.value;
          adds = record {
            cut = c.in_ok-add_block.ensures.cut;
            bare = c.in_ok-add_block.ensures.bare;
            worst = c.in_ok-add_block.ensures.worst;
          };
        };
        parts = parts;
        are_parts = c.in_ok-parts.ensures;
        groups = refl;
        judged = record { finding = c.in_ok-fault.ensures; bad = refl };
      },
      item_stopped item before middle after c.args.sheet.now c.begin.new.self c.add_groups.new.sheet c.end.new.self
          c.in_ok-begin.ensures added c.in_ok-end.ensures refl begun,
    ))
    c.turn.ensures.stopped
