use Rattle.erst_machine.specs.Allowed.{Allows}
use Rattle.erst_commands.proofs.MachineDialogues.{done_alike}
use Rattle.erst_commands.proofs.ClientDialogues.{attach, attaches_held}
use Rattle.erst_commands.proofs.equivalence.equivalent_machines_attach_alike.Goals as goal

pub returns : goal.returns
returns g c = λ told table budget. done_alike g.F.Flash.tells told _ (attach table budget) (attaches_held (Allows g.F.Flash.tells) table budget)
