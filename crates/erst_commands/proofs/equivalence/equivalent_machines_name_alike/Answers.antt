use Rattle.erst_machine.specs.Allowed.{Allows}
use Rattle.erst_commands.proofs.MachineDialogues.{done_alike}
use Rattle.erst_commands.proofs.ClientDialogues.{name, names_held}
use Rattle.erst_commands.proofs.equivalence.equivalent_machines_name_alike.Goals as goal

pub returns : goal.returns
returns g c = λ told entries budget. done_alike g.F.Flash.tells told _ (name entries budget) (names_held (Allows g.F.Flash.tells) entries budget)
