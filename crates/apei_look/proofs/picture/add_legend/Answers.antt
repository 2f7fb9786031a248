use Rattle.std.proofs.Common.{◌∙◌, ℕ, List, ◌++◌, ap, append_assoc, codes, string_bytes}
use Rattle.apei_look.proofs.picture.add_legend.Goals as goal

pub returns : goal.returns
returns c =
    let records : List ℕ = codes "R first slot of a record  + further slot of a record  2 second copy  o orphan\n" in
    let others : List ℕ = codes "w being filled or erased  k killed  . erased  ? unknown\n\n" in
    c.in_ok-push_str-2.ensures.bytes
    ∙ ap (λ (t : List ℕ). t ++ others) c.in_ok-push_str.ensures.bytes
    ∙ append_assoc (string_bytes c.args.out.now) records others
