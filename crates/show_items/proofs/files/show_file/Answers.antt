use Rattle.std.proofs.Common.{[]}
use Rattle.std.proofs.lemmas.Result.{on_ok_weaker}
use Rattle.show_items.proofs.BeginningLemmas.{if_failed, stopped_so}
use Rattle.show_items.proofs.FileLemmas.{file_begun, last_page_begun, shown_and_written}
use Rattle.show_items.proofs.ImageLemmas.{image_sized}
use Rattle.show_items.specs.Files.{AreItemsOf}
use Rattle.show_items.specs.Judged.{StopsIn}
use Rattle.show_items.specs.Sheets.{GroupsBegun}
use Rattle.show_items.proofs.files.show_file.Goals as goal

pub show_kind-requires : goal.show_kind-requires
show_kind-requires g c = image_sized c.args.name.now c.args.bytes.now c.kind_of.result c.kind_of.ensures

pub returns-clause-shown : goal.returns-clause-shown
returns-clause-shown g c =
    on_ok_weaker c.finish.result
    (shown_and_written c.args.name.now c.args.bytes.now c.kind_of.result
    (g.P.Pages.written c.args.pages.now) (g.P.Pages.written c.show_kind.new.pages) (g.P.Pages.written c.finish.new.pages)
    c.args.sheet.now c.show_kind.new.sheet c.finish.new.self c.kind_of.ensures c.in_ok-show_kind.ensures.shown)
    c.finish.ensures.written

pub returns-in_err-show_kind-clause-stopped : goal.returns-in_err-show_kind-clause-stopped
returns-in_err-show_kind-clause-stopped g c =
    let name = c.args.name.now in
    let bytes = c.args.bytes.now in
    let kind = c.kind_of.result in
    let before = g.P.Pages.written c.args.pages.now in
    let after = g.P.Pages.written c.show_kind.new.pages in
    stopped_so c.from_residual.result c.in_err-show_kind.field-0.0 (StopsIn (λ early. AreItemsOf early kind bytes) before after c.args.sheet.now) _
    c.from_residual.ensures.1 (file_begun name bytes kind before after c.args.sheet.now c.kind_of.ensures) c.in_err-show_kind.ensures.stopped

pub returns-clause-stopped : goal.returns-clause-stopped
returns-clause-stopped g c =
    let middle = g.P.Pages.written c.show_kind.new.pages in
    let after = g.P.Pages.written c.finish.new.pages in
    if_failed c.finish.result (GroupsBegun [] middle after c.show_kind.new.sheet) _
    (last_page_begun c.args.name.now c.args.bytes.now c.kind_of.result (g.P.Pages.written c.args.pages.now) middle after c.args.sheet.now c.show_kind.new.sheet
    c.kind_of.ensures c.in_ok-show_kind.ensures.shown)
    c.finish.ensures.stopped
