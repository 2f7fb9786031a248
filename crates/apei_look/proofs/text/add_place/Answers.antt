use Rattle.std.proofs.Common.{◌∙◌, ℕ, ◌++◌, true, ap, codes, decimal, string_bytes}
use Rattle.std.proofs.lemmas.Result.{on_ok_weaker}
use Rattle.apei_look.specs.Places.{flash_at}
use Rattle.apei_look.proofs.TextLemmas.{three_pieces}
use Rattle.apei_look.proofs.text.add_place.Goals as goal

pub returns : goal.returns
returns c =
    let old = string_bytes c.args.out.now in
    on_ok_weaker c.writeln.result
    (λ is. is
    ∙ ap (λ (at : ℕ). old ++ (codes ", from byte " ++ (decimal at ++ codes " on\n"))) c.flash_at-at.ensures.at
    ∙ three_pieces old (codes ", from byte ") (decimal (flash_at true c.args.geometry.now)) (codes " on\n"))
    c.writeln.ensures.bytes
