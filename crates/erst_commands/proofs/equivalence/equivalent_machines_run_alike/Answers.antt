use Rattle.erst_machine.specs.Allowed.{Allows}
use Rattle.erst_commands.proofs.MachineDialogues.{done_alike}
use Rattle.erst_commands.proofs.RunDialogues.{run_of, run_held}
use Rattle.erst_commands.proofs.equivalence.equivalent_machines_run_alike.Goals as goal

pub returns : goal.returns
returns g c = λ told program given budget. done_alike g.F.Flash.tells told _ (run_of program given budget) (run_held (Allows g.F.Flash.tells) program given budget)
