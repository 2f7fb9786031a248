use Rattle.std.proofs.Common.{take, sym, arith}
use Rattle.base_model.proofs.BytesLemmas.{AreBytes-each}
use Rattle.ghes_block.proofs.Whole.{front, head_there, whole_block, only_found, never_refused, first_place}
use Rattle.ghes_block.proofs.block.Block.decode.Goals as goal

pub slice_bounds-block-end : goal.slice_bounds-block-end
slice_bounds-block-end c =
    sym (front c.args.bytes.now c.in_ok-length.length c.in_ok-length.entries (AreBytes-each c.args.bytes.now (λ k. omega (arith, c.type_inv.bytes k)))
    c.in_ok-length.ensures.0 c.in_ok-length.ensures.1).size

pub invariant_of-block : goal.invariant_of-block
invariant_of-block c =
    (front c.args.bytes.now c.in_ok-length.length c.in_ok-length.entries (AreBytes-each c.args.bytes.now (λ k. omega (arith, c.type_inv.bytes k)))
    c.in_ok-length.ensures.0 c.in_ok-length.ensures.1).whole

pub returns-clause-found : goal.returns-clause-found
returns-clause-found c =
    let f = front c.args.bytes.now c.in_ok-length.length c.in_ok-length.entries (AreBytes-each c.args.bytes.now (λ k. omega (arith, c.type_inv.bytes k)))
    c.in_ok-length.ensures.0 c.in_ok-length.ensures.1 in
    (f.within, whole_block (take c.in_ok-length.length c.args.bytes.now) f.whole.are_bytes f.whole.whole)

pub returns-clause-only : goal.returns-clause-only
returns-clause-only c = λ value n h is. only_found c.args.bytes.now c.in_ok-length.length value n c.in_ok-length.ensures.0 h is

pub returns-in_err-length-clause-only : goal.returns-in_err-length-clause-only
returns-in_err-length-clause-only c = λ value n h is. absurd (never_refused c.args.bytes.now c.in_err-length.field-0.0 value n c.in_err-length.ensures h is)

pub returns-clause-head : goal.returns-clause-head
returns-clause-head c = head_there c.args.bytes.now c.in_ok-length.length c.in_ok-length.ensures.0

pub returns-clause-first : goal.returns-clause-first
returns-clause-first c = first_place _
