use Rattle.script_laws.proofs.EquivalenceLemmas.{histories_alike}
use Rattle.script_laws.proofs.history.scripts_play_alike.Goals as goal

pub returns : goal.returns
returns g c = λ told wants wants_too counts one also first second one_last also_last want_alike.
    histories_alike g.F.Flash.tells told (c.equivalent_machines_make_turns_alike.ensures.turns told) wants wants_too want_alike counts one also first second one_last also_last
