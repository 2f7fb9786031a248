use Rattle.std.proofs.Common.{arith}
use Rattle.apei_bytes.proofs.Puts.{◌▸◌, no_field}
use Rattle.apei_tables.specs.Layout.{spelling}
use Rattle.apei_tables.proofs.headers.Header.put.Goals as goal

pub returns-clause-written : goal.returns-clause-written
unfolding spelling
returns-clause-written c =
    let fields = no_field c.args.out.now 0 (omega arith) ▸ c.write_array-length.ensures.wrote ▸ c.write_u32-revision.ensures.wrote
    ▸ c.write_array-oem_id.ensures.wrote ▸ c.write_array-oem_table_id.ensures.wrote ▸ c.write_array-oem_revision.ensures.wrote
    ▸ c.write_u32-creator_id.ensures.wrote ▸ c.write_array-creator_revision.ensures.wrote ▸ c.write_u32.ensures.wrote in
    fields.wrote.put
