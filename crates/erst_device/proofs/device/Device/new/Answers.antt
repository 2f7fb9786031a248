use Rattle.erst_device.proofs.device.Device.new.Goals as goal

pub returns : goal.returns
returns g c = c.new.ensures.first c.args.store
