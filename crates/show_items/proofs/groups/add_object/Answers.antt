use Rattle.std.proofs.Common.{codes}
use Rattle.std.proofs.lemmas.Result.{on_ok_weaker}
use Rattle.field_lines.specs.Code.{structure_of}
use Rattle.field_lines.specs.Layouts.{structure_text}
use Rattle.field_lines.specs.Styles.{json_member, json_heading}
use Rattle.show_items.specs.Groups.{head_of, members}
use Rattle.show_items.proofs.TextLemmas.{three_added}
use Rattle.show_items.proofs.groups.add_object.Goals as goal

pub returns : goal.returns
returns c =
    let fields = structure_text (λ depth base. json_member) (λ depth. json_heading) c.args.group.now.base (structure_of c.args.layout.now) c.args.body.now in
    on_ok_weaker c.add.result
    (three_added c.args.out.now.items (members (head_of c.args.group.now)) fields (codes "}") c.add_members.new.out.items c.add_layout.new.out.items c.add.new.out.items
    c.in_ok-add_members.ensures c.in_ok-add_layout.ensures)
    c.add.ensures
