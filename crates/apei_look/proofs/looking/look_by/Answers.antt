use Rattle.std.proofs.Common.{rules, ◌≡◌}
use Rattle.apei_look.specs.Looks.{flash_in}
use Rattle.apei_look.proofs.LookLemmas.{shown_by}
use Rattle.apei_look.proofs.looking.look_by.Goals as goal

pub returns-clause-ends : goal.returns-clause-ends
returns-clause-ends g c =
    let geometry = c.args.geometry.now in
    let same : c.flash_of-flash.result.now ≡ flash_in c.args.is_medium geometry c.args.bytes.items = search rules in
    shown_by c.args.show c.args.is_medium geometry c.args.held c.file_size-size.result c.args.bytes.items c.flash_of-flash.result.now _ _
    c.show_flash-shown.result c.ended_as.result c.file_size-size.ensures same c.ended_as.ensures c.show_flash-shown.ensures.ends
