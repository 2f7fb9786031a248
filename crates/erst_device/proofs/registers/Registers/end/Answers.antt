use Rattle.erst_device.specs.Registers.{seen}
use Rattle.erst_device.proofs.ActionLemmas.{ends_from}
use Rattle.erst_device.proofs.registers.Registers.end.Goals as goal

pub returns-clause-does : goal.returns-clause-does
returns-clause-does g c = λ range. ends_from g.F.Flash.tells (seen c.args.self.now c.args.store.now) (seen c.give_up.new.self c.give_up.new.store) range c.give_up.ensures.does
