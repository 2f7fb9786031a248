use Rattle.std.proofs.Common.{◌∙◌, sym, refl}
use Rattle.std.proofs.lemmas.Result.{on_ok_weaker}
use Rattle.show_items.specs.Parts.{part_group, part_head, part_json}
use Rattle.show_items.proofs.SheetLemmas.{json_group, part_in_json}
use Rattle.show_items.proofs.sheet.Sheet.add_part.Goals as goal

pub returns-in_ok-begin_group-in-Json : goal.returns-in_ok-begin_group-in-Json
returns-in_ok-begin_group-in-Json c =
    let part = c.args.part.now in
    let json = sym c.form.ensures ∙ c.in-Json.is in
    on_ok_weaker c.add_part_object.result
    (λ added. json_group (part_group part) c.args.self.now c.begin_group.new.self _
    (part_json (part_head part) part.named) json
    (part_in_json c.args.self.now.manner.form c.args.self.now.manner.places (part_head part) part.named json)
    c.in_ok-begin_group-in-Json.ensures.text c.in_ok-begin_group-in-Json.ensures.begun c.in_ok-begin_group-in-Json.ensures.same added refl
    (record { items = refl; bad = refl; path = refl; manner = refl }))
    c.add_part_object.ensures
