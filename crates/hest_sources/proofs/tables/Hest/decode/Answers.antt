use Rattle.hest_sources.proofs.Hests.{only_from}
use Rattle.hest_sources.proofs.tables.Hest.decode.Goals as goal

pub returns-clause-only : goal.returns-clause-only
returns-clause-only c = λ sources n h is. only_from c.args.bytes.now c.find.result sources n h is c.find.ensures.found c.find.ensures.refused
