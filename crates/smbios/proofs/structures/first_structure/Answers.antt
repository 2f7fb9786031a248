use Rattle.std.proofs.Common.{◌∙◌, ap, sym, ◌++◌, take}
use Rattle.smbios.proofs.StructureLemmas.{no_strings, structure}
use Rattle.smbios.proofs.structures.first_structure.Goals as goal

pub returns-in_default-strings_len : goal.returns-in_default-strings_len
returns-in_default-strings_len c =
    no_strings c.args.bytes.now c.in-Some.len c.behind-others.result.now c.behind-others.ensures c.in-Some.ensures c.in_default-strings_len.ensures

pub returns : goal.returns
returns c =
    let len = c.in-Some.len in
    let more = c.in-Some-strings_len.strings_len in
    let others = c.behind-others.result.now in
    let all = structure c.args.bytes.now len more others c.behind-others.ensures c.in-Some.ensures c.in-Some-strings_len.ensures.1 in
    (all.0, all.1 ∙ ap (λ it. (take len c.args.bytes.now ++ take more others) ++ it) (sym c.behind.ensures))
