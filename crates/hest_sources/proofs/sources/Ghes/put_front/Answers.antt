use Rattle.std.proofs.Common.{ℕ, subst, arith}
use Rattle.base_model.specs.Bytes.{joined, spelled}
use Rattle.apei_bytes.specs.Writing.{Wrote}
use Rattle.apei_bytes.proofs.Puts.{◌▸◌, no_field}
use Rattle.hest_sources.specs.Layout.{ghes_fields}
use Rattle.hest_sources.proofs.sources.Ghes.put_front.Goals as goal

pub returns : goal.returns
returns c =
    let fields = no_field c.args.out.now 0 (omega arith)
    ▸ (subst (λ (k : ℕ). Wrote c.args.out.now c.write_u16-id.new.out 0 c.write_u16-id.result (spelled 2 k)) c.kind.ensures c.write_u16-id.ensures.wrote)
    ▸ c.write_u16-related.ensures.wrote ▸ c.write_u16-flags.ensures.wrote ▸ c.write_u8-enabled.ensures.wrote ▸ c.write_u8-records.ensures.wrote
    ▸ c.write_u32-sections.ensures.wrote ▸ c.write_u32-raw.ensures.wrote ▸ c.write_u32-status.ensures.wrote ▸ c.put_gas-notify.ensures.wrote
    ▸ c.write_array-block_len.ensures.wrote ▸ c.write_u32.ensures.wrote in
    subst (λ (end : ℕ). Wrote c.args.out.now c.write_u32.new.out 0 end (joined (ghes_fields c.args.self.now))) (omega arith) fields.wrote
