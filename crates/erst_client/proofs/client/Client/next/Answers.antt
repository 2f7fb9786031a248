use Rattle.erst_client.proofs.CommandLemmas.{names_on}
use Rattle.erst_client.proofs.CommandCauses.{names_cause}
use Rattle.erst_client.proofs.client.Client.next.Goals as goal

pub returns-clause-reaches : goal.returns-clause-reaches
returns-clause-reaches g c = names_on _ _ _ _ _ _ _ c.next_identifier.ensures

pub returns-clause-cause : goal.returns-clause-cause
returns-clause-cause g c = names_cause g.S.Space.allows g.S.Space.faults g.met.S.Space.reasons _ _ _ _ _ _ c.next_identifier.ensures
