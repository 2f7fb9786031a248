use Rattle.erst_commands.proofs.MachineOutlines.{answer_alike}
use Rattle.erst_commands.proofs.equivalence.equivalent_machines_answer_alike.Goals as goal

pub returns : goal.returns
returns g c = λ told one other call also one_after other_after equivalent asks first quiet second also_quiet.
    answer_alike g.F.Flash.tells told one other equivalent call also one_after other_after asks first quiet second also_quiet
