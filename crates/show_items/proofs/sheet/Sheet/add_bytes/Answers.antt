use Rattle.std.proofs.Common.{◌∙◌, sym, refl}
use Rattle.std.proofs.lemmas.Result.{on_ok_weaker}
use Rattle.show_items.specs.Groups.{bytes_group, bytes_json, head_of}
use Rattle.show_items.proofs.SheetLemmas.{bytes_in_json, json_group}
use Rattle.show_items.proofs.sheet.Sheet.add_bytes.Goals as goal

pub returns-in_ok-begin_group-in-Json : goal.returns-in_ok-begin_group-in-Json
returns-in_ok-begin_group-in-Json c =
    let head = head_of c.args.group.now in
    let json = sym c.form.ensures ∙ c.in-Json.is in
    on_ok_weaker c.add_digit_object.result
    (λ added. json_group (bytes_group head c.args.body.now) c.args.self.now c.begin_group.new.self _
    (bytes_json head c.args.body.now) json
    (bytes_in_json c.args.self.now.manner.form c.args.self.now.manner.places head c.args.body.now json)
    c.in_ok-begin_group-in-Json.ensures.text c.in_ok-begin_group-in-Json.ensures.begun c.in_ok-begin_group-in-Json.ensures.same added refl
    (record { items = refl; bad = refl; path = refl; manner = refl }))
    c.add_digit_object.ensures
