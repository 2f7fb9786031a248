use Rattle.std.proofs.Common.{◌∙◌, ℕ, List, Option, ◌++◌, ap, codes, decimal, string_bytes}
use Rattle.std.proofs.lemmas.Result.{on_ok_weaker}
use Rattle.cper_frame.specs.Names.{severity_word}
use Rattle.apei_look.specs.RecordObjects.{name_json}
use Rattle.apei_look.proofs.TextLemmas.{pieces_and_text}
use Rattle.apei_look.proofs.json_records.add_severity.Goals as goal

pub returns : goal.returns
returns c =
    let name : List ℕ = name_json (severity_word c.args.severity) in
    on_ok_weaker c.add_name.result
    (λ is. is
    ∙ ap (λ (found : Option (List ℕ)). string_bytes c.write.new.self ++ name_json found) c.severity_name.ensures
    ∙ ap (λ (t : List ℕ). t ++ name) c.in_ok-write.ensures.bytes
    ∙ pieces_and_text (string_bytes c.args.out.now) (codes "{\"severity\":") (decimal c.args.severity) (codes ",\"severity_name\":") name)
    c.add_name.ensures
