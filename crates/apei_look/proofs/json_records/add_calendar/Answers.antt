use Rattle.std.proofs.Common.{◌∙◌, codes, string_bytes}
use Rattle.std.proofs.lemmas.Result.{on_ok_weaker}
use Rattle.jiff.specs.Names.{iso_datetime_text}
use Rattle.apei_look.specs.RecordObjects.{truth_json}
use Rattle.apei_look.proofs.TextLemmas.{five_pieces}
use Rattle.apei_look.proofs.json_records.add_calendar.Goals as goal

pub returns : goal.returns
returns c =
    on_ok_weaker c.write.result
    (λ is. is ∙ five_pieces (string_bytes c.args.out.now) (codes ",\"time\":\"") (iso_datetime_text c.args.time.now)
    (codes "\",\"precise\":") (truth_json c.args.is_precise) (codes ",\"time_bytes\":null"))
    c.write.ensures.bytes
