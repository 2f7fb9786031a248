use Rattle.std.proofs.Common.{◌∙◌, codes, decimal, string_bytes}
use Rattle.std.proofs.lemmas.Result.{on_ok_weaker}
use Rattle.apei_look.proofs.TextLemmas.{five_pieces}
use Rattle.apei_look.proofs.text.add_longer.Goals as goal

pub returns : goal.returns
returns c =
    on_ok_weaker c.writeln.result
    (λ is. is ∙ five_pieces (string_bytes c.args.out.now) (codes "the file has ") (decimal c.args.held)
    (codes " bytes; those from byte ") (decimal c.args.size) (codes " on are not shown\n"))
    c.writeln.ensures.bytes
