use Rattle.std.proofs.Common.{Bool, false, List}
use Rattle.std.proofs.lemmas.Result.{on_ok_weaker}
use Rattle.show_items.specs.Images.{AreImageItems, AreRecordsFrom, IsFlash}
use Rattle.show_items.proofs.BeginningLemmas.{if_stopped}
use Rattle.show_items.proofs.PlaceLemmas.{one_and_all, one_and_begun}
use Rattle.show_items.specs.Items.{Shown}
use Rattle.show_items.specs.Judged.{StopsIn}
use Rattle.show_items.proofs.images.show_image.Goals as goal

pub returns-clause-shown : goal.returns-clause-shown
returns-clause-shown g c =
    let written = g.P.Pages.written in
    let geometry = c.args.geometry.now in
    let image = c.args.image.now in
    on_ok_weaker c.show_records.result (
    one_and_all (IsFlash image) (AreRecordsFrom false geometry image 0 geometry.slots) (AreImageItems false geometry image) (written c.args.pages.now) (written c.show_records.new.pages)
    c.args.sheet.now c.show_flash.new.sheet c.show_records.new.sheet (λ item items is are. (is, are)) c.in_ok-show_flash.ensures
    ) c.show_records.ensures.shown

pub returns-clause-stopped : goal.returns-clause-stopped
returns-clause-stopped g c =
    let written = g.P.Pages.written in
    let geometry = c.args.geometry.now in
    let image = c.args.image.now in
    let Are : Bool → List Shown → Type 0 = λ early. AreRecordsFrom early geometry image 0 geometry.slots in
    if_stopped c.show_records.result (StopsIn Are (written c.args.pages.now) (written c.show_records.new.pages) c.show_flash.new.sheet) _ (
    one_and_begun (IsFlash image) Are (λ early. AreImageItems early geometry image) (written c.args.pages.now) (written c.show_records.new.pages)
    c.args.sheet.now c.show_flash.new.sheet (λ early item items is are. (is, are)) c.in_ok-show_flash.ensures
    ) c.show_records.ensures.stopped
