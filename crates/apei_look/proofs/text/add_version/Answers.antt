use Rattle.std.proofs.Common.{◌∙◌, codes, decimal, string_bytes}
use Rattle.std.proofs.lemmas.Result.{on_ok_weaker}
use Rattle.apei_look.proofs.TextLemmas.{five_pieces}
use Rattle.apei_look.specs.Texts.{version}
use Rattle.apei_look.proofs.text.add_version.Goals as goal

pub returns : goal.returns
returns c =
    on_ok_weaker c.write.result
    (λ is. is ∙ five_pieces (string_bytes c.args.out.now) (codes "a medium of the library, version ") (decimal version)
    (codes ": ") (decimal c.args.geometry.now.slots) (codes " "))
    c.write.ensures.bytes
