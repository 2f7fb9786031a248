use Rattle.erst_client.proofs.CommandLemmas.{counts_on}
use Rattle.erst_client.proofs.CommandCauses.{counts_cause}
use Rattle.erst_client.proofs.client.Client.count.Goals as goal

pub returns-clause-reaches : goal.returns-clause-reaches
returns-clause-reaches g c = counts_on _ _ _ _ _ _ _ c.count_records.ensures

pub returns-clause-cause : goal.returns-clause-cause
returns-clause-cause g c = counts_cause g.S.Space.allows g.S.Space.faults g.met.S.Space.reasons _ _ _ _ _ _ c.count_records.ensures
