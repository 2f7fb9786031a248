use Rattle.std.proofs.Common.{◌≡◌, length, sym, ◌∙◌, arith}
use Rattle.base_model.specs.Bytes.{part, AreBytes}
use Rattle.base_model.proofs.BytesLemmas.{AreBytes-each, AreBytes-part, length-part}
use Rattle.hest_sources.specs.Layout.{gas_at}
use Rattle.hest_sources.proofs.Structures.{is_gas, gas_again}
use Rattle.hest_sources.proofs.sources.gas_from.Goals as goal

pub returns : goal.returns
returns c =
    let bytes = c.args.bytes.now in
    let at = c.args.at in
    let each : AreBytes (part bytes at 12) = AreBytes-part bytes at 12 (AreBytes-each bytes (λ k. omega (arith, c.type_inv.bytes k))) in
    let size : length (part bytes at 12) ≡ 12 = length-part bytes at 12 c.requires in
    sym (c.decode.ensures.only (gas_at (part bytes at 12)) (is_gas (part bytes at 12) each size) (c.array_at.ensures ∙ sym (gas_again (part bytes at 12) each size)))
