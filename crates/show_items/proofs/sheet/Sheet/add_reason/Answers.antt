use Rattle.std.proofs.Common.{◌∙◌, sym, refl}
use Rattle.std.proofs.lemmas.Result.{on_ok_weaker}
use Rattle.show_items.specs.Groups.{head_of}
use Rattle.show_items.specs.Refusals.{reason_group, reason_json}
use Rattle.show_items.proofs.RefusalLemmas.{reason_in_json}
use Rattle.show_items.proofs.SheetLemmas.{json_group}
use Rattle.show_items.proofs.sheet.Sheet.add_reason.Goals as goal

pub returns-in_ok-begin_group-in-Json : goal.returns-in_ok-begin_group-in-Json
returns-in_ok-begin_group-in-Json c =
    let head = head_of c.args.group.now in
    let json = sym c.form.ensures ∙ c.in-Json.is in
    on_ok_weaker c.add_reason_object.result
    (λ added. json_group (reason_group head c.args.reason.now) c.args.self.now c.begin_group.new.self _
    (reason_json head c.args.reason.now) json
    (reason_in_json c.args.self.now.manner.form c.args.self.now.manner.places head c.args.reason.now json)
    c.in_ok-begin_group-in-Json.ensures.text c.in_ok-begin_group-in-Json.ensures.begun c.in_ok-begin_group-in-Json.ensures.same added refl
    (record { items = refl; bad = refl; path = refl; manner = refl }))
    c.add_reason_object.ensures
