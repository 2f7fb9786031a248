use Rattle.std.proofs.Common.{◌∙◌, ℕ, List, ◌++◌, ap, append_assoc, codes, string_bytes}
use Rattle.std.proofs.lemmas.Result.{on_ok_weaker}
use Rattle.apei_look.specs.RecordObjects.{guid_json}
use Rattle.apei_look.proofs.json_records.add_guids.Goals as goal

pub returns : goal.returns
returns c =
    let creator : List ℕ = guid_json (codes ",\"creator\":\"") c.args.head.now.creator in
    let notification : List ℕ = guid_json (codes ",\"notification\":\"") c.args.head.now.notification in
    on_ok_weaker c.add_labelled_guid-2.result
    (λ is. is
    ∙ ap (λ (t : List ℕ). t ++ notification) c.in_ok-add_labelled_guid.ensures
    ∙ append_assoc (string_bytes c.args.out.now) creator notification)
    c.add_labelled_guid-2.ensures
