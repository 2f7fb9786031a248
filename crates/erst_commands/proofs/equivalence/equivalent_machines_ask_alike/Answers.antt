use Rattle.erst_machine.specs.Allowed.{Allows}
use Rattle.erst_commands.proofs.MachineDialogues.{done_alike}
use Rattle.erst_commands.proofs.ClientDialogues.{ask_all, asks_held}
use Rattle.erst_commands.proofs.equivalence.equivalent_machines_ask_alike.Goals as goal

pub returns : goal.returns
returns g c = λ told entries requests budget. done_alike g.F.Flash.tells told _ (ask_all entries requests budget) (asks_held (Allows g.F.Flash.tells) entries requests budget)
