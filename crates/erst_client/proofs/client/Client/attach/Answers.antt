use Rattle.erst_client.proofs.AttachLemmas.{attaches_on}
use Rattle.erst_client.proofs.CommandCauses.{attaches_cause}
use Rattle.erst_client.proofs.client.Client.attach.Goals as goal

pub returns-in-Ok-clause-reaches : goal.returns-in-Ok-clause-reaches
returns-in-Ok-clause-reaches g c = attaches_on _ _ _ _ _ _ _ c.find.ensures

pub returns-in-Err-clause-reaches : goal.returns-in-Err-clause-reaches
returns-in-Err-clause-reaches g c = attaches_on _ _ _ _ _ _ _ c.find.ensures

pub returns-in-Ok-clause-cause : goal.returns-in-Ok-clause-cause
returns-in-Ok-clause-cause g c = attaches_cause g.S.Space.allows g.S.Space.faults g.met.S.Space.reasons _ _ _ _ _ _ c.in-Ok.ensures

pub returns-in-Err-clause-cause : goal.returns-in-Err-clause-cause
returns-in-Err-clause-cause g c = attaches_cause g.S.Space.allows g.S.Space.faults g.met.S.Space.reasons _ _ _ _ _ _ c.in-Err.ensures
