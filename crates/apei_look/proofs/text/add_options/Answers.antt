use Rattle.std.proofs.Common.{◌∙◌, codes, decimal, string_bytes}
use Rattle.std.proofs.lemmas.Result.{on_ok_weaker}
use Rattle.apei_look.proofs.TextLemmas.{six_pieces}
use Rattle.apei_look.proofs.text.add_options.Goals as goal

pub returns : goal.returns
returns c =
    let geometry = c.args.geometry.now in
    on_ok_weaker c.write.result
    (λ is. is ∙ six_pieces (string_bytes c.args.out.now) (codes "--sector=") (decimal geometry.sector)
    (codes " --per-slot=") (decimal geometry.per_slot) (codes " --slots=") (decimal geometry.slots))
    c.write.ensures.bytes
