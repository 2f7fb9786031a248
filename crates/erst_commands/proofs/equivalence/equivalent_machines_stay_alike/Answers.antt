use Rattle.erst_commands.proofs.TrailOutlines.{trails_alike}
use Rattle.erst_commands.proofs.equivalence.equivalent_machines_stay_alike.Goals as goal

pub returns : goal.returns
returns g c = λ told one machine other first second one_after other_after equivalent asks.
    trails_alike g.F.Flash.tells told first second one other one_after other_after equivalent machine asks
