use Rattle.std.proofs.Common.{◌∙◌, codes, decimal, string_bytes}
use Rattle.std.proofs.lemmas.Result.{on_ok_weaker}
use Rattle.apei_look.proofs.TextLemmas.{four_pieces}
use Rattle.apei_look.proofs.json.add_counts.Goals as goal

pub returns : goal.returns
returns c =
    let totals = c.args.totals.now in
    on_ok_weaker c.write.result
    (λ is. is ∙ four_pieces (string_bytes c.args.out.now) (codes ",\"free\":") (decimal totals.free) (codes ",\"records\":") (decimal totals.records))
    c.write.ensures.bytes
