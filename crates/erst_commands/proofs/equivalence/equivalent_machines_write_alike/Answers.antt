use Rattle.erst_machine.specs.Allowed.{Allows}
use Rattle.erst_commands.proofs.MachineDialogues.{done_alike}
use Rattle.erst_commands.proofs.ClientDialogues.{write, writes_held}
use Rattle.erst_commands.proofs.equivalence.equivalent_machines_write_alike.Goals as goal

pub returns : goal.returns
returns g c = λ told client bytes budget. done_alike g.F.Flash.tells told _ (write client bytes budget) (writes_held (Allows g.F.Flash.tells) client bytes budget)
