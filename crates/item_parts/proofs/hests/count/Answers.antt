use Rattle.std.proofs.Common.{length, refl, sym, ap, ◌∙◌, arith}
use Rattle.base_model.proofs.BytesLemmas.{AreBytes-each}
use Rattle.item_parts.specs.Parts.{source_parts}
use Rattle.item_parts.proofs.PartLemmas.{length-source_parts, few_sources}
use Rattle.item_parts.proofs.hests.count.Goals as goal

pub overflow_cast-result : goal.overflow_cast-result
overflow_cast-result c =
    let each = AreBytes-each c.args.bytes.now (λ k. omega (arith, c.type_inv.bytes k)) in
    let few = few_sources c.args.bytes.now c.in-Ok._size c.in-Ok.hest each c.in-Ok.ensures.found.1 in
    let same = ap length c.sources.ensures in
    omega arith

pub returns-in-Ok-clause-found : goal.returns-in-Ok-clause-found
returns-in-Ok-clause-found c =
    let sources = c.in-Ok.hest in
    let found = c.in-Ok.ensures.found in
    (source_parts 40 sources, (c.in-Ok._size, found.0, (sources, found.1, refl)), ap length c.sources.ensures ∙ sym (length-source_parts 40 sources))

pub returns-in-Ok-clause-only : goal.returns-in-Ok-clause-only
returns-in-Ok-clause-only c = λ parts begins.
    let same = (c.in-Ok.ensures.only begins.2.0 begins.0 begins.1 begins.2.1).0 in
    ap length c.sources.ensures ∙ ap length same ∙ sym (length-source_parts 40 begins.2.0) ∙ ap length (sym begins.2.2)
