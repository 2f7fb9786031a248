use Rattle.erst_device.specs.Registers.{seen}
use Rattle.erst_device.proofs.ActionLemmas.{begins_from}
use Rattle.erst_device.proofs.registers.Registers.begin.Goals as goal

pub returns-clause-does : goal.returns-clause-does
returns-clause-does g c = λ action by range.
    begins_from g.F.Flash.tells (seen c.args.self.now c.args.store.now) (seen c.give_up.new.self c.give_up.new.store) action c.args.operation range c.give_up.ensures.does by
