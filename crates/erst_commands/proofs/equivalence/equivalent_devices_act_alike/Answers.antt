use Rattle.erst_commands.specs.Equivalence.{device_outline}
use Rattle.erst_commands.proofs.DeviceOutlines.{became, became_alike}
use Rattle.erst_commands.proofs.equivalence.equivalent_devices_act_alike.Goals as goal

pub returns : goal.returns
returns g c = λ told action one other range one_after one_range other_after other_range equivalent first second.
    became_alike action (device_outline one) (device_outline other) range (device_outline one_after) one_range (device_outline other_after) other_range equivalent
    (became g.F.Flash.tells told one range action one_after one_range first.acts first.knows first.quiet)
    (became g.F.Flash.tells told other range action other_after other_range second.acts second.knows second.quiet)
