use Rattle.std.proofs.Common.{codes}
use Rattle.std.proofs.lemmas.Result.{on_ok_weaker}
use Rattle.show_items.specs.Items.{fault_json}
use Rattle.show_items.proofs.TextLemmas.{three_added}
use Rattle.show_items.proofs.sheet.add_bad_end.Goals as goal

pub returns : goal.returns
returns c =
    on_ok_weaker c.add-2.result
    (three_added c.args.out.now.items (codes "],\"bad\":") (fault_json c.args.fault.now) (codes "}\n") c.add.new.out.items c.add_fault_object.new.out.items
    c.add-2.new.out.items c.in_ok-add.ensures c.in_ok-add_fault_object.ensures)
    c.add-2.ensures
