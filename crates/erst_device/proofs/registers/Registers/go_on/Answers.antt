use Rattle.erst_device.specs.Actions.{NoneRuns}
use Rattle.erst_device.proofs.ActionLemmas.{still_of}
use Rattle.erst_device.proofs.registers.Registers.go_on.Goals as goal

pub returns-in-Nothing-clause-does : goal.returns-in-Nothing-clause-does
returns-in-Nothing-clause-does g c = NoneRuns (still_of g.F.Flash.tells c.args.self.now c.args.store.now c.requires.runs c.in-Nothing.is)
