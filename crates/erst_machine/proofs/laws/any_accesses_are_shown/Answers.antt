use Rattle.erst_machine.proofs.CrashTrail.{accesses_are_shown, reached_is_shown}
use Rattle.erst_machine.proofs.laws.any_accesses_are_shown.Goals as goal

pub returns-clause-trail : goal.returns-clause-trail
returns-clause-trail g c = λ told. accesses_are_shown g.F.Flash.tells told

pub returns-clause-reached : goal.returns-clause-reached
returns-clause-reached g c = λ told. reached_is_shown g.F.Flash.tells told
