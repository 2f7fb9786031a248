use Rattle.erst_client.proofs.CommandLemmas.{writes_on}
use Rattle.erst_client.proofs.CommandCauses.{writes_cause}
use Rattle.erst_client.proofs.client.Client.write.Goals as goal

pub returns-clause-reaches : goal.returns-clause-reaches
returns-clause-reaches g c = writes_on _ _ _ _ _ _ _ _ c.write_record.ensures

pub returns-clause-cause : goal.returns-clause-cause
returns-clause-cause g c = writes_cause g.S.Space.allows g.S.Space.faults g.met.S.Space.reasons _ _ _ _ _ _ _ c.write_record.ensures
