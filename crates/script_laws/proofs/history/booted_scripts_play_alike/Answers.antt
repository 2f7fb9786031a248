use Rattle.script_laws.proofs.EquivalenceLemmas.{booted_alike}
use Rattle.script_laws.proofs.history.booted_scripts_play_alike.Goals as goal

pub returns : goal.returns
returns g c = λ told. booted_alike g.F.Flash.tells told (c.equivalent_machines_make_turns_alike.ensures.turns told)
