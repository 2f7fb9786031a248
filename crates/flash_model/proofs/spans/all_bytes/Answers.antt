use Rattle.flash_model.proofs.SpanLemmas.{known_of_all}
use Rattle.flash_model.proofs.spans.all_bytes.Goals as goal

pub returns-clause-known : goal.returns-clause-known
returns-clause-known c image = known_of_all c.args.sector c.if-sector-eq0.sectors image c.in_ok-spans.spans.items c.in_ok-spans.ensures
