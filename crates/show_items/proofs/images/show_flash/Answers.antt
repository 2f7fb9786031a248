use Rattle.std.proofs.lemmas.Result.{on_ok_weaker}
use Rattle.show_items.proofs.HeaderLemmas.{flash_shown}
use Rattle.show_items.proofs.images.show_flash.Goals as goal

pub returns : goal.returns
returns c =
    on_ok_weaker c.end.result (flash_shown c.as_str.result.now c.args.image.now c.args.sheet.now c.begin.new.self c.end.new.self c.in_ok-begin.ensures) c.end.ensures
