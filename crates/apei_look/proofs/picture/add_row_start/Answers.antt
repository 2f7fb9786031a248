use Rattle.std.proofs.Common.{◌∙◌, ℕ, List, ◌++◌, ap, codes, string_bytes}
use Rattle.std.proofs.lemmas.Result.{on_ok_weaker}
use Rattle.std.specs.Fmt.{styled_decimal}
use Rattle.apei_look.proofs.PaddingLemmas.{aligned}
use Rattle.apei_look.proofs.picture.add_row_start.Goals as goal

pub returns : goal.returns
returns c =
    let old = string_bytes c.args.out.now in
    on_ok_weaker c.write.result
    (λ is. is
    ∙ ap (λ spec. old ++ (codes "\n" ++ (styled_decimal spec c.args.slot ++ codes " "))) c.laid_out.ensures
    ∙ ap (λ (t : List ℕ). old ++ (codes "\n" ++ (t ++ codes " "))) (aligned c.args.slot))
    c.write.ensures.bytes
