use Rattle.erst_commands.proofs.EventOutlines.{submits_alike, turns_alike, lays_alike}
use Rattle.erst_commands.proofs.equivalence.equivalent_machines_hand_over_alike.Goals as goal

pub returns-clause-submits : goal.returns-clause-submits
returns-clause-submits c = λ block one other result also one_after other_after equivalent. submits_alike one other equivalent block result also one_after other_after

pub returns-clause-turns : goal.returns-clause-turns
returns-clause-turns c = λ side one other event also one_after other_after equivalent. turns_alike one other equivalent side event also one_after other_after

pub returns-clause-lays : goal.returns-clause-lays
returns-clause-lays c = λ block one machine other result also one_after other_after equivalent. lays_alike one other equivalent machine block result also one_after other_after
