use Rattle.flash_model.proofs.SpanLemmas.{rest_stays}
use Rattle.flash_model.proofs.spans.program.Goals as goal

pub returns-clause-known : goal.returns-clause-known
returns-clause-known c =
    c.widen.ensures.known c.args.image.now c.put_range.new.image
    (rest_stays c.args.image.now c.put_range.new.image c.args.at c.args.bytes.now c.requires.within c.put_range.ensures) c.requires.known
