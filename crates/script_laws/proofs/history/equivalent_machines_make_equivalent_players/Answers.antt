use Rattle.script_laws.proofs.EquivalenceLemmas.{own_players_alike}
use Rattle.script_laws.proofs.history.equivalent_machines_make_equivalent_players.Goals as goal

pub returns : goal.returns
returns c = own_players_alike
