use Rattle.std.proofs.Common.{◌∙◌, ℕ, ◌++◌, true, ap, codes, decimal, string_bytes}
use Rattle.std.proofs.lemmas.Result.{on_ok_weaker}
use Rattle.apei_look.specs.Places.{flash_at}
use Rattle.apei_look.specs.Texts.{version}
use Rattle.apei_look.proofs.TextLemmas.{five_pieces}
use Rattle.apei_look.proofs.json.add_header.Goals as goal

pub returns : goal.returns
returns c =
    let old = string_bytes c.args.out.now in
    on_ok_weaker c.write.result
    (λ is. is
    ∙ ap (λ (at : ℕ). old ++ (codes "{\"version\":" ++ (decimal version ++ (codes ",\"flash_at\":" ++ (decimal at ++ codes "}"))))) c.flash_at-at.ensures.at
    ∙ five_pieces old (codes "{\"version\":") (decimal version) (codes ",\"flash_at\":") (decimal (flash_at true c.args.geometry.now)) (codes "}"))
    c.write.ensures.bytes
