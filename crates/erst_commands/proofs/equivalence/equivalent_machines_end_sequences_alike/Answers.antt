use Rattle.erst_machine.specs.Allowed.{Allows}
use Rattle.erst_commands.proofs.MachineDialogues.{done_alike}
use Rattle.erst_commands.proofs.ClientDialogues.{sequence, sequence_held}
use Rattle.erst_commands.proofs.equivalence.equivalent_machines_end_sequences_alike.Goals as goal

pub returns : goal.returns
returns g c = λ told entries timings requests budget. done_alike g.F.Flash.tells told _ (sequence entries timings requests budget)
    (sequence_held (Allows g.F.Flash.tells) entries timings requests budget)
