use Rattle.erst_machine.proofs.CrashTrail.{events_are_shown}
use Rattle.erst_machine.proofs.laws.any_events_are_shown.Goals as goal

pub returns : goal.returns
returns g c = λ told. events_are_shown g.F.Flash.tells told
