use Rattle.erst_shadow.proofs.OperationLemmas.{operation_as_own}
use Rattle.erst_shadow.proofs.laws.a_sequence_is_the_machines_own.Goals as goal

pub returns : goal.returns
returns g c = operation_as_own g.F.Flash.tells c.own_programs_run_through.ensures
