use Rattle.std.proofs.Common.{ℕ, subst, arith}
use Rattle.base_model.specs.Bytes.{joined}
use Rattle.apei_bytes.specs.Writing.{Wrote}
use Rattle.apei_bytes.proofs.Puts.{◌▸◌, no_field}
use Rattle.cper_frame.specs.Grammar.{header_front}
use Rattle.cper_frame.proofs.writer.put_front.Goals as goal

pub returns-clause-wrote : goal.returns-clause-wrote
returns-clause-wrote c =
    let fields = no_field c.args.out.now 0 (omega arith) ▸ c.write_array-revision.ensures.wrote ▸ c.write_u16-end.ensures.wrote
    ▸ c.write_u32-count.ensures.wrote ▸ c.write_u16-severity.ensures.wrote ▸ c.write_u32-validation.ensures.wrote ▸ c.write_u32-length.ensures.wrote
    ▸ c.write_u32.ensures.wrote in
    subst (λ (end : ℕ). Wrote c.args.out.now c.write_u32.new.out 0 end (joined (header_front c.args.head.now c.args.sections 0))) (omega arith) fields.wrote
