use Rattle.std.proofs.Common.{ℕ, subst, arith}
use Rattle.base_model.specs.Bytes.{joined}
use Rattle.apei_bytes.specs.Writing.{Wrote}
use Rattle.apei_bytes.proofs.Puts.{no_field, next_field}
use Rattle.ghes_block.specs.Grammar.{entry_front}
use Rattle.ghes_block.proofs.writer.put_front.Goals as goal

pub returns-clause-wrote : goal.returns-clause-wrote
returns-clause-wrote c =
    let w0 = no_field c.args.out.now c.args.at (omega arith) in
    let w1 = next_field w0 c.write_guid-severity.ensures.wrote in
    let w2 = next_field w1 c.write_u32-revision.ensures.wrote in
    let w3 = next_field w2 c.write_u16-validation.ensures.wrote in
    let w4 = next_field w3 c.write_u8-flags.ensures.wrote in
    let w5 = next_field w4 c.write_u8-length.ensures.wrote in
    let w6 = next_field w5 c.write_u32-fru.ensures.wrote in
    let w7 = next_field w6 c.write_guid-fru_text.ensures.wrote in
    let w8 = next_field w7 c.write_array.ensures.wrote in
    subst (λ (end : ℕ). Wrote c.args.out.now c.write_array.new.out c.args.at end (joined (entry_front c.args.head.now c.args.count))) (omega arith) w8.wrote
