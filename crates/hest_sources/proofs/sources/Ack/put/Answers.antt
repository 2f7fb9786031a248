use Rattle.std.proofs.Common.{ℕ, Some, subst, arith}
use Rattle.apei_bytes.specs.Writing.{Wrote}
use Rattle.apei_bytes.proofs.Puts.{◌▸◌, no_field}
use Rattle.hest_sources.proofs.Terms.{ack_bytes}
use Rattle.hest_sources.proofs.sources.Ack.put.Goals as goal

pub returns-clause-wrote : goal.returns-clause-wrote
returns-clause-wrote c =
    let fields = no_field c.args.out.now 64 (omega arith) ▸ c.put_gas-preserve.ensures.wrote ▸ c.write_u64-write.ensures.wrote
    ▸ c.write_u64.ensures.wrote in
    subst (λ (end : ℕ). Wrote c.args.out.now c.write_u64.new.out 64 end (ack_bytes (Some c.args.self.now))) (omega arith) fields.wrote
