use Rattle.std.proofs.Common.{◌≡◌, subst, replicate, refl}
use Rattle.apei_tables.specs.Layout.{HasSizes}
use Rattle.erst_entries.specs.Layout.{Erst, front_spelling}
use Rattle.erst_entries.proofs.TableBytes.{put-front}
use Rattle.erst_entries.proofs.tables.ErstTable.front.Goals as goal

pub returns-clause-value : goal.returns-clause-value
returns-clause-value c =
    let all = put-front (replicate 48 0) (record {
      header = c.self.inside.header;
      header_size = c.self.inside.header_size;
      reserved = c.self.inside.reserved;
      count = c.self.inside.count;
      entries = c.self.inside.entries.items;
    }) refl c.put.ensures.sizes in
    let is : c.put_u32-3.new.bytes ≡ front_spelling (record {
      header = c.self.inside.header;
      header_size = c.self.inside.header_size;
      reserved =
          c.self.inside.reserved;
      count = c.self.inside.count;
      entries = c.self.inside.entries.items;
    }) = cc in
    subst (λ (e : Erst). c.put_u32-3.new.bytes ≡ front_spelling e) c.self.view_is is

pub returns-clause-sizes : goal.returns-clause-sizes
returns-clause-sizes c = subst (λ (e : Erst). HasSizes e.header) c.self.view_is c.put.ensures.sizes
