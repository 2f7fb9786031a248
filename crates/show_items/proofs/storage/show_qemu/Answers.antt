use Rattle.std.proofs.Common.{arith, ◌∙◌, ◌<◌, false, sym}
use Rattle.std.proofs.lemmas.Result.{on_ok_weaker}
use Rattle.show_items.specs.Judged.{StopsIn}
use Rattle.show_items.specs.Storage.{AreStorageItems, AreStored, IsStorageHeader, place_size}
use Rattle.show_items.proofs.BeginningLemmas.{if_stopped}
use Rattle.show_items.proofs.PlaceLemmas.{one_alone, one_and_all, one_and_begun}
use Rattle.show_items.proofs.StorageLemmas.{all_by_size, none_without_size}
use Rattle.show_items.proofs.storage.show_qemu.Goals as goal

pub returns-then-size-eq0-clause-shown : goal.returns-then-size-eq0-clause-shown
returns-then-size-eq0-clause-shown g c =
    let bytes = c.args.bytes.now in
    one_alone (IsStorageHeader bytes) (AreStorageItems false bytes) (g.P.Pages.written c.args.pages.now) c.args.sheet.now c.show_storage.new.sheet
    (λ item is. (is, none_without_size bytes (sym c.seen_u32-size.ensures ∙ c.if-size-eq0.true))) c.in_ok-show_storage.ensures

pub returns-clause-shown : goal.returns-clause-shown
returns-clause-shown g c =
    let written = g.P.Pages.written in
    let bytes = c.args.bytes.now in
    let some : 0 < place_size bytes = omega (arith, c.seen_u32-size.ensures, c.if-size-eq0.false) in
    on_ok_weaker c.show_places.result (
    one_and_all (IsStorageHeader bytes) (AreStored false bytes) (AreStorageItems false bytes)
    (written c.args.pages.now) (written c.show_places.new.pages) c.args.sheet.now c.show_storage.new.sheet c.show_places.new.sheet
    (λ item items is are. (is, all_by_size false bytes items some are)) c.in_ok-show_storage.ensures
    ) c.show_places.ensures.shown

pub returns-clause-stopped : goal.returns-clause-stopped
returns-clause-stopped g c =
    let bytes = c.args.bytes.now in
    let before = g.P.Pages.written c.args.pages.now in
    let after = g.P.Pages.written c.show_places.new.pages in
    let some : 0 < place_size bytes = omega (arith, c.seen_u32-size.ensures, c.if-size-eq0.false) in
    if_stopped c.show_places.result (StopsIn (λ early. AreStored early bytes) before after c.show_storage.new.sheet) _ (
    one_and_begun (IsStorageHeader bytes) (λ early. AreStored early bytes) (λ early. AreStorageItems early bytes) before after
    c.args.sheet.now c.show_storage.new.sheet (λ early item items is are. (is, all_by_size early bytes items some are)) c.in_ok-show_storage.ensures
    ) c.show_places.ensures.stopped
