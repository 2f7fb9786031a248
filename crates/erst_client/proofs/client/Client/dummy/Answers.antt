use Rattle.apei_space.specs.Accesses.{Stays}
use Rattle.erst_client.proofs.SequenceLemmas.{sequence_on}
use Rattle.erst_client.proofs.CommandCauses.{sequence_has_cause}
use Rattle.erst_client.proofs.client.Client.dummy.Goals as goal

pub returns-clause-reaches : goal.returns-clause-reaches
returns-clause-reaches g c = sequence_on _ _ _ _ _ _ _ _ _ _ Stays c.write_dummy.ensures

pub returns-clause-cause : goal.returns-clause-cause
returns-clause-cause g c = sequence_has_cause g.S.Space.allows g.S.Space.faults g.met.S.Space.reasons _ _ _ _ _ _ _ _ c.write_dummy.ensures
