use Rattle.std.proofs.Common.{◌≡◌, ◌+◌, ◌*◌, ◌^◌, ◌<◌, length, arith}
use Rattle.std.proofs.lemmas.Grind.{common_steps}
use Rattle.erst_entries.specs.Layout.{Erst}
use Rattle.erst_entries.proofs.TableBytes.{seals}
use Rattle.erst_entries.proofs.tables.ErstTable.finish.Goals as goal

pub returns-clause-sealed : goal.returns-clause-sealed
returns-clause-sealed c =
    let h = c.self.inside.header in
    let n = c.len-2.result in
    let within : 48 + 32 * length c.self.inside.entries.items < 2 ^ 32 = c.self.invariant.0 in
    let many : n ≡ length c.self.inside.entries.items = grind (arith, common_steps) in
    let small : 48 + 32 * n < 2 ^ 32 = omega arith in
    let erst : Erst = record {
      header = record {
        signature = h.signature;
        length = 48 + 32 * n;
        revision = h.revision;
        checksum = 0;
        oem_id = h.oem_id;
        oem_table_id = h.oem_table_id;
        oem_revision = h.oem_revision;
        creator_id = h.creator_id;
        creator_revision = h.creator_revision;
      };
      header_size =
          c.self.inside.header_size;
      reserved = c.self.inside.reserved;
      count = c.len.result;
      entries = c.self.inside.entries.items;
    } in
    seals erst c.wrapping_neg-self-inside.result c.sum.result c.sum.ensures.sizes (omega arith) small c.sum.ensures.value c.wrapping_neg-self-inside.ensures
