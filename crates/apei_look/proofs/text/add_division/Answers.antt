use Rattle.std.proofs.Common.{◌∙◌, codes, decimal, string_bytes}
use Rattle.std.proofs.lemmas.Result.{on_ok_weaker}
use Rattle.apei_look.proofs.TextLemmas.{four_pieces}
use Rattle.apei_look.proofs.text.add_division.Goals as goal

pub returns : goal.returns
returns c =
    let geometry = c.args.geometry.now in
    on_ok_weaker c.write.result
    (λ is. is ∙ four_pieces (string_bytes c.args.out.now) (codes "slots of ") (decimal geometry.per_slot) (codes " sectors of ") (decimal geometry.sector))
    c.write.ensures.bytes
