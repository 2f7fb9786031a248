use Rattle.erst_commands.proofs.EventOutlines.{happens_alike}
use Rattle.erst_commands.proofs.equivalence.equivalent_machines_go_on_alike.Goals as goal

pub returns : goal.returns
returns g c = λ told one machine other event also one_after other_after equivalent asks.
    happens_alike one other equivalent g.F.Flash.tells told machine event also one_after other_after asks
