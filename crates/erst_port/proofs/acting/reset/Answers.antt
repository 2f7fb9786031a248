use Rattle.erst_port.proofs.ActLemmas.{steps_grow}
use Rattle.erst_port.proofs.acting.reset.Goals as goal

pub returns-clause-grows : goal.returns-clause-grows
returns-clause-grows c =
    steps_grow c.args.device.now.store.flash c.reset-outcome.new.self.store.flash c.steps.ensures.told c.steps-2.ensures.told (c.reset-outcome.ensures.leaves.kept tt).later
