use Rattle.std.proofs.Common.{◌+◌}
use Rattle.ghes_block.proofs.Writes.{wrote_entry}
use Rattle.ghes_block.proofs.writer.put_entry.Goals as goal

pub returns-clause-fits : goal.returns-clause-fits
returns-clause-fits c =
    let numbers = c.put_front.ensures.numbers in
    let arrays = c.put_front.ensures.arrays in
    record {
      kind = arrays.0;
      severity = numbers.0;
      revision = numbers.1;
      validation = numbers.2;
      flags = numbers.3;
      fru = arrays.1;
      fru_text = arrays.2;
      stamp = c.put_stamp-data.ensures.range;
      no_stamp = c.requires.stamp;
    }

pub returns-clause-wrote : goal.returns-clause-wrote
returns-clause-wrote c =
    wrote_entry c.args.out.now c.put_front.new.out c.put_stamp-data.new.out c.write_bytes.new.out c.args.at (c.args.at + 64) c.put_stamp-data.result
    c.write_bytes.result c.args.head.now c.args.body.now
    c.put_front.ensures.wrote c.put_stamp-data.ensures.wrote c.write_bytes.ensures.wrote
