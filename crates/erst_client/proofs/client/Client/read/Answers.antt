use Rattle.erst_client.proofs.CommandLemmas.{reads_on}
use Rattle.erst_client.proofs.CommandCauses.{reads_cause}
use Rattle.erst_client.proofs.client.Client.read.Goals as goal

pub returns-clause-reaches : goal.returns-clause-reaches
returns-clause-reaches g c = reads_on _ _ _ _ _ _ _ _ _ _ c.read_record.ensures

pub returns-clause-cause : goal.returns-clause-cause
returns-clause-cause g c = reads_cause g.S.Space.allows g.S.Space.faults g.met.S.Space.reasons _ _ _ _ _ _ _ _ _ c.read_record.ensures
