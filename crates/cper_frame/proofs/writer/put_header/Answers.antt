use Rattle.std.proofs.Common.{subst, sym}
use Rattle.apei_bytes.specs.Writing.{Wrote}
use Rattle.apei_bytes.proofs.Puts.{wrote_then, joined-append}
use Rattle.cper_frame.specs.Grammar.{header_front, header_back}
use Rattle.cper_frame.proofs.writer.put_header.Goals as goal

pub returns-clause-fits : goal.returns-clause-fits
returns-clause-fits c =
    let front = c.put_front.ensures.fits in
    let numbers = c.put_back.ensures.numbers in
    let guids = c.put_back.ensures.guids in
    let arrays = c.put_back.ensures.arrays in
    record {
      revision = front.0;
      severity = front.1;
      validation = front.2;
      timestamp = numbers.0;
      platform = guids.0;
      partition = guids.1;
      creator = guids.2;
      notification = guids.3;
      id = numbers.1;
      flags = numbers.2;
      persistence = arrays.0;
      reserved = arrays.1;
    }

pub returns-clause-wrote : goal.returns-clause-wrote
returns-clause-wrote c =
    subst (Wrote c.args.out.now c.put_back.new.out 0 128) (sym (joined-append (header_front c.args.head.now c.args.sections 0) (header_back c.args.head.now)))
    (wrote_then c.args.out.now c.put_front.new.out c.put_back.new.out 0 24 128 _ _ c.put_front.ensures.wrote c.put_back.ensures.wrote)
