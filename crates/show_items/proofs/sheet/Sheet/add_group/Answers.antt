use Rattle.std.proofs.Common.{◌∙◌, sym, refl}
use Rattle.std.proofs.lemmas.Result.{on_ok_weaker}
use Rattle.field_lines.specs.Code.{structure_of}
use Rattle.show_items.specs.Groups.{fields_group, fields_json, head_of}
use Rattle.show_items.proofs.SheetLemmas.{fields_in_json, json_group}
use Rattle.show_items.proofs.sheet.Sheet.add_group.Goals as goal

pub returns-in_ok-begin_group-in-Json : goal.returns-in_ok-begin_group-in-Json
returns-in_ok-begin_group-in-Json c =
    let head = head_of c.args.group.now in
    let json = sym c.form.ensures ∙ c.in-Json.is in
    on_ok_weaker c.add_object.result
    (λ added. json_group (fields_group head (structure_of c.args.layout.now) c.args.body.now) c.args.self.now c.begin_group.new.self _
    (fields_json head (structure_of c.args.layout.now) c.args.body.now) json
    (fields_in_json c.args.self.now.manner.form c.args.self.now.manner.places head (structure_of c.args.layout.now) c.args.body.now json)
    c.in_ok-begin_group-in-Json.ensures.text c.in_ok-begin_group-in-Json.ensures.begun c.in_ok-begin_group-in-Json.ensures.same added refl
    (record { items = refl; bad = refl; path = refl; manner = refl }))
    c.add_object.ensures
