use Rattle.std.proofs.Common.{false, refl, Err}
use Rattle.show_items.specs.Images.{AreMediumItems, IsBadMedium}
use Rattle.show_items.proofs.PlaceLemmas.{one_alone}
use Rattle.show_items.proofs.media.show_medium.Goals as goal

pub returns-in_ok-show_bad-in-Err-clause-shown : goal.returns-in_ok-show_bad-in-Err-clause-shown
returns-in_ok-show_bad-in-Err-clause-shown g c =
    let bytes = c.args.bytes.now in
    let error = c.in-Err.error in
    one_alone (IsBadMedium bytes error) (AreMediumItems false bytes) (g.P.Pages.written c.args.pages.now) c.args.sheet.now c.show_bad.new.sheet
    (λ item is. (Err error, c.in-Err.ensures, (is, refl))) c.in_ok-show_bad-in-Err.ensures
