use Rattle.std.proofs.Common.{◌<◌, ◌^◌, arith}
use Rattle.apei_bytes.proofs.Fields.{writes, is_written}
use Rattle.apei_bytes.proofs.numbers.put_u64.Goals as goal

pub returns : goal.returns
returns c =
    let small : c.args.value < 256 ^ 8 = omega arith in
    let done = is_written 8 c.args.at c.args.value c.args.bytes.now _ c.requires small (writes 8 c.args.at c.args.value c.args.bytes.now c.write_u64.new.buf c.requires c.write_u64.ensures) in
    record { written = done.written; reads_back = done.reads_back; others = done.others }
