use Rattle.std.proofs.Common.{◌∙◌, ℕ, Bool, ◌||◌, List, [], length, codes, Option, is_some, refl, ap}
use Rattle.std.proofs.lemmas.Result.{on_ok_weaker}
use Rattle.show_items.specs.Items.{Shown, smbios_of}
use Rattle.show_items.specs.Sheets.{GroupsBegun}
use Rattle.show_items.specs.Tables.{IsTable, is_refused, table_groups}
use Rattle.show_items.proofs.BeginningLemmas.{if_failed, item_begun, item_stopped, stopped_so}
use Rattle.show_items.proofs.SheetLemmas.{item_shown}
use Rattle.show_items.proofs.tables.show_table.Goals as goal

pub returns-clause-shown : goal.returns-clause-shown
returns-clause-shown g c =
    let bytes = c.args.bytes.now in
    let item : Shown = record {
      heading = record { kind = codes "table"; at = c.args.at; size = length bytes; sentence = c.as_str.result.now };
      groups = table_groups bytes;
      fault = c.in_ok-fault.fault;
      bad = c.is_bad.result;
      smbios = smbios_of c.args.sheet.now.manner;
    } in
    let is_table : IsTable c.args.at bytes item = record {
      heading = record { word = refl; place = refl; size = refl };
      groups = refl;
      finding = c.in_ok-fault.ensures;
      bad = c.is_bad.ensures ∙ ap (λ (refused : Bool). refused || is_some c.in_ok-fault.fault) c.is_refused-refused.ensures;
    } in
    on_ok_weaker c.turn.result
    (λ turned. (
      item,
      is_table,
      item_shown item (g.P.Pages.written c.args.pages.now) (g.P.Pages.written c.add_groups.new.pages) (g.P.Pages.written c.turn.new.pages)
          c.args.sheet.now c.begin.new.self c.add_groups.new.sheet c.end_with.new.self c.turn.new.self
          c.in_ok-begin.ensures c.in_ok-add_groups.ensures.shown c.in_ok-end_with.ensures turned refl,
    ))
    c.turn.ensures.turned

pub returns-in_err-add_groups-clause-stopped : goal.returns-in_err-add_groups-clause-stopped
returns-in_err-add_groups-clause-stopped g c =
    let bytes = c.args.bytes.now in
    let item : Shown = record {
      heading = record { kind = codes "table"; at = c.args.at; size = length bytes; sentence = c.as_str.result.now };
      groups = table_groups bytes;
      fault = c.in_ok-fault.fault;
      bad = is_refused bytes || is_some c.in_ok-fault.fault;
      smbios = smbios_of c.args.sheet.now.manner;
    } in
    let is_table : IsTable c.args.at bytes item = record {
      heading = record { word = refl; place = refl; size = refl };
      groups = refl;
      finding = c.in_ok-fault.ensures;
      bad = refl;
    } in
    let before : Option (List ℕ) = g.P.Pages.written c.args.pages.now in
    let after : Option (List ℕ) = g.P.Pages.written c.add_groups.new.pages in
    stopped_so c.from_residual-in_err-add_groups.result c.in_err-add_groups.field-0.0 (GroupsBegun (table_groups bytes) before after c.begin.new.self) _
    c.from_residual-in_err-add_groups.ensures.1
    (λ groups. (
      item,
      is_table,
      item_begun item before after c.args.sheet.now c.begin.new.self c.in_ok-begin.ensures refl groups,
    ))
    c.in_err-add_groups.ensures.stopped

pub returns-clause-stopped : goal.returns-clause-stopped
returns-clause-stopped g c =
    let bytes = c.args.bytes.now in
    let item : Shown = record {
      heading = record { kind = codes "table"; at = c.args.at; size = length bytes; sentence = c.as_str.result.now };
      groups = table_groups bytes;
      fault = c.in_ok-fault.fault;
      bad = c.is_bad.result;
      smbios = smbios_of c.args.sheet.now.manner;
    } in
    let is_table : IsTable c.args.at bytes item = record {
      heading = record { word = refl; place = refl; size = refl };
      groups = refl;
      finding = c.in_ok-fault.ensures;
      bad = c.is_bad.ensures ∙ ap (λ (refused : Bool). refused || is_some c.in_ok-fault.fault) c.is_refused-refused.ensures;
    } in
    let before : Option (List ℕ) = g.P.Pages.written c.args.pages.now in
    let middle : Option (List ℕ) = g.P.Pages.written c.add_groups.new.pages in
    let after : Option (List ℕ) = g.P.Pages.written c.turn.new.pages in
    if_failed c.turn.result (GroupsBegun [] middle after c.end_with.new.self) _
    (λ begun. (
      item,
      is_table,
      item_stopped item before middle after c.args.sheet.now c.begin.new.self c.add_groups.new.sheet c.end_with.new.self
          c.in_ok-begin.ensures c.in_ok-add_groups.ensures.shown c.in_ok-end_with.ensures refl begun,
    ))
    c.turn.ensures.stopped
