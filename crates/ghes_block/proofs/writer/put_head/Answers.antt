use Rattle.std.proofs.Common.{ℕ, subst, arith}
use Rattle.base_model.specs.Bytes.{joined}
use Rattle.apei_bytes.specs.Writing.{Wrote}
use Rattle.apei_bytes.proofs.Puts.{no_field, next_field}
use Rattle.ghes_block.proofs.Terms.{block_head}
use Rattle.ghes_block.proofs.writer.put_head.Goals as goal

pub returns : goal.returns
returns c =
    let w0 = no_field c.args.out.now 0 (omega arith) in
    let w1 = next_field w0 c.write_u32-raw_offset_at.ensures.wrote in
    let w2 = next_field w1 c.write_u32-raw_length_at.ensures.wrote in
    let w3 = next_field w2 c.write_u32-data_length_at.ensures.wrote in
    let w4 = next_field w3 c.write_u32-severity_at.ensures.wrote in
    let w5 = next_field w4 c.write_u32.ensures.wrote in
    subst (λ (end : ℕ). Wrote c.args.out.now c.write_u32.new.out 0 end
    (joined (block_head c.args.status c.args.raw_offset c.args.raw_length c.args.data_length c.args.severity))) (omega arith) w5.wrote
