use Rattle.std.proofs.Common.{ℕ, subst, arith}
use Rattle.base_model.specs.Bytes.{joined}
use Rattle.apei_bytes.specs.Writing.{Wrote}
use Rattle.apei_bytes.proofs.Puts.{◌▸◌, no_field}
use Rattle.cper_frame.specs.Grammar.{descriptor_fields}
use Rattle.cper_frame.proofs.writer.put_descriptor.Goals as goal

pub returns-clause-wrote : goal.returns-clause-wrote
returns-clause-wrote c =
    let fields = no_field c.args.out.now c.args.at (omega arith) ▸ c.write_u32-length.ensures.wrote ▸ c.write_u32-revision.ensures.wrote
    ▸ c.write_u16-validation.ensures.wrote ▸ c.write_u8-reserved.ensures.wrote ▸ c.write_u8-flags.ensures.wrote ▸ c.write_u32-kind.ensures.wrote
    ▸ c.write_guid-fru.ensures.wrote ▸ c.write_guid-severity.ensures.wrote ▸ c.write_u32-fru_text.ensures.wrote ▸ c.write_array.ensures.wrote in
    subst (λ (end : ℕ). Wrote c.args.out.now c.write_array.new.out c.args.at end (joined (descriptor_fields c.args.head.now c.args.offset c.args.count))) (omega arith) fields.wrote
