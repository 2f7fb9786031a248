use Rattle.std.proofs.Common.{◌≡◌, ◌∙◌, length, ap, sym, arith}
use Rattle.ghes_ack.proofs.SideLemmas.{copies_next}
use Rattle.ghes_ack.proofs.blocks.reader.copy_in_place.Goals as goal

pub returns-clause-makes : goal.returns-clause-makes
returns-clause-makes c =
    let n : length c.in-Some.bytes.items ≡ c.in-Some.bytes.len = ap length (sym c.deref_mut.ensures.value) ∙ c.deref_mut.ensures.len in
    let l = c.len.ensures in
    let more = c.if-blocks-len.false in
    copies_next c.args.blocks.now c.in-Some.bytes c.deref_mut.result.now c.copy_piece.new.bytes c.args.ram.now c.in-Some.is c.deref_mut.ensures.value
    (omega (arith, n, l, more)) c.copy_piece.ensures (c.copy_piece.auto.bytes ∙ c.deref_mut.ensures.len)
