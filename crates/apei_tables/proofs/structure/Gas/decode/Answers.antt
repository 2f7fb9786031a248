use Rattle.base_model.proofs.BytesLemmas.{AreBytes-each}
use Rattle.apei_tables.proofs.GasSpelling.{spelling-found, only_found}
use Rattle.apei_tables.proofs.structure.Gas.decode.Goals as goal

pub returns-clause-found : goal.returns-clause-found
returns-clause-found c =
    rw c.get_u64.ensures (spelling-found c.args.bytes.now c.told-bytes (AreBytes-each c.args.bytes.now c.fits-bytes))

pub returns-clause-only : goal.returns-clause-only
returns-clause-only c = λ gas fits same. rw c.get_u64.ensures (only_found c.args.bytes.now gas fits same)
