use Rattle.std.proofs.Common.{◌<◌, ◌^◌, arith}
use Rattle.apei_bytes.proofs.Fields.{writes, is_written}
use Rattle.apei_bytes.proofs.numbers.put_u32.Goals as goal

pub returns : goal.returns
returns c =
    let small : c.args.value < 256 ^ 4 = omega arith in
    let done = is_written 4 c.args.at c.args.value c.args.bytes.now _ c.requires small (writes 4 c.args.at c.args.value c.args.bytes.now c.write_u32.new.buf c.requires c.write_u32.ensures) in
    record { written = done.written; reads_back = done.reads_back; others = done.others }
