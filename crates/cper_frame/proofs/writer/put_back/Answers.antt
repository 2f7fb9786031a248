use Rattle.std.proofs.Common.{ℕ, subst, arith}
use Rattle.base_model.specs.Bytes.{joined}
use Rattle.apei_bytes.specs.Writing.{Wrote}
use Rattle.apei_bytes.proofs.Puts.{◌▸◌, no_field}
use Rattle.cper_frame.specs.Grammar.{header_back}
use Rattle.cper_frame.proofs.writer.put_back.Goals as goal

pub returns-clause-wrote : goal.returns-clause-wrote
returns-clause-wrote c =
    let fields = no_field c.args.out.now 24 (omega arith) ▸ c.write_u64-platform.ensures.wrote ▸ c.write_guid-partition.ensures.wrote
    ▸ c.write_guid-creator.ensures.wrote ▸ c.write_guid-notification.ensures.wrote ▸ c.write_guid-id.ensures.wrote ▸ c.write_u64-flags.ensures.wrote
    ▸ c.write_u32-persistence.ensures.wrote ▸ c.write_array-reserved.ensures.wrote ▸ c.write_array.ensures.wrote in
    subst (λ (end : ℕ). Wrote c.args.out.now c.write_array.new.out 24 end (joined (header_back c.args.head.now))) (omega arith) fields.wrote
