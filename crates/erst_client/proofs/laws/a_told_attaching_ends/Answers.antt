use Rattle.erst_client.proofs.FindingLemmas.{finding_starts, finding_goes, finding_falls}
use Rattle.erst_client.proofs.laws.a_told_attaching_ends.Goals as goal

pub returns-clause-begins : goal.returns-clause-begins
returns-clause-begins c entries steps = finding_starts entries steps

pub returns-clause-moves : goal.returns-clause-moves
returns-clause-moves c entries old at moves = finding_goes entries old at moves

pub returns-clause-answered : goal.returns-clause-answered
returns-clause-answered c at answer demand told = finding_falls at answer demand told
