use Rattle.erst_machine.proofs.EventLemmas.{events_keep}
use Rattle.erst_machine.proofs.laws.events_keep_a_machine.Goals as goal

pub returns : goal.returns
returns g c = events_keep g.F.Flash.tells
