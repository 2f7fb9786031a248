use Rattle.std.proofs.lemmas.Result.{on_ok_weaker}
use Rattle.field_lines.specs.Code.{structure_of}
use Rattle.show_items.proofs.BeginningLemmas.{if_stopped}
use Rattle.show_items.proofs.MediumLemmas.{whole_begun, whole_shown}
use Rattle.show_items.specs.Images.{AreImageItems}
use Rattle.show_items.specs.Judged.{StopsIn}
use Rattle.show_items.proofs.media.show_whole.Goals as goal

pub returns-clause-shown : goal.returns-clause-shown
returns-clause-shown g c =
    let written = g.P.Pages.written in
    on_ok_weaker c.show_image.result (
    whole_shown c.args.geometry.now c.args.bytes.now c.flash_of.result.now (structure_of c.medium_header.result) (written c.args.pages.now) (written c.show_image.new.pages)
    c.args.sheet.now c.show_header.new.sheet c.show_image.new.sheet c.medium_header.ensures.layout c.flash_of.ensures.flash c.in_ok-show_header.ensures
    ) c.show_image.ensures.shown

pub returns-clause-stopped : goal.returns-clause-stopped
returns-clause-stopped g c =
    let geometry = c.args.geometry.now in
    let flash = c.flash_of.result.now in
    let before = g.P.Pages.written c.args.pages.now in
    let after = g.P.Pages.written c.show_image.new.pages in
    if_stopped c.show_image.result (StopsIn (λ early. AreImageItems early geometry flash) before after c.show_header.new.sheet) _ (
    whole_begun geometry c.args.bytes.now flash (structure_of c.medium_header.result) before after
    c.args.sheet.now c.show_header.new.sheet c.medium_header.ensures.layout c.flash_of.ensures.flash c.in_ok-show_header.ensures
    ) c.show_image.ensures.stopped
