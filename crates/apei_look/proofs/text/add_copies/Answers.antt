use Rattle.std.proofs.Common.{◌∙◌, List, ℕ, ◌++◌, ap, codes, decimal, string_bytes}
use Rattle.apei_look.proofs.TextLemmas.{behind_one_another}
use Rattle.apei_look.proofs.text.add_copies.Goals as goal

pub returns : goal.returns
returns c =
    let copies = decimal c.args.totals.now.second_copies in
    let bytes = decimal c.args.totals.now.bytes in
    c.in_ok-push_str.ensures.bytes
    ∙ ap (λ (text : List ℕ). text ++ codes "\n") (c.in_ok-write-2.ensures.bytes ∙ ap (λ (text : List ℕ). text ++ (codes " bytes " ++ bytes)) c.in_ok-write.ensures.bytes)
    ∙ behind_one_another (string_bytes c.args.out.now) (codes " second copies ") copies (codes " bytes ") bytes (codes "\n")
