use Rattle.erst_device.proofs.device.Device.power.Goals as goal

pub returns-clause-registers : goal.returns-clause-registers
returns-clause-registers g c = c.new-self-inside.ensures.first _
