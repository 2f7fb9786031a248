use Rattle.erst_commands.proofs.MachineOutlines.{fill_both}
use Rattle.erst_commands.proofs.equivalence.equivalent_machines_show_alike.Goals as goal

pub returns : goal.returns
returns g c = λ told at one other shown also equivalent long first second.
    fill_both g.F.Flash.tells told one other equivalent at shown.before also.before shown.after also.after shown.answer also.answer shown.last also.last long first second
