use Rattle.std.proofs.Common.{◌≡◌, ◌++◌, drop}
use Rattle.base_model.specs.Bytes.{spelled, put_at}
use Rattle.apei_cli.specs.Records.{zeros}
use Rattle.apei_cli.proofs.Terms.{first_fields}
use Rattle.apei_cli.proofs.RecordLemmas.{record_made}
use Rattle.apei_cli.proofs.generate.record.sample_record.Goals as goal

pub returns : goal.returns
returns c =
    let first : c.copy_from_slice.new.self ≡ first_fields = c.copy_from_slice.ensures.after in
    let with_length : c.put_u32.new.bytes ≡ put_at (c.copy_from_slice.new.self ++ drop 20 (zeros 368)) 20 (spelled 4 c.args.size) = c.put_u32.ensures.written in
    record_made c.args.id c.args.size c.copy_from_slice.new.self c.put_u32.new.bytes c.put_u64.new.bytes first with_length c.put_u64.ensures.written c.requires.least c.requires.most
