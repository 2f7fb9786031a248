use Rattle.erst_commands.proofs.EventOutlines.{boots_alike}
use Rattle.erst_commands.proofs.TrailOutlines.{boots_from_alike}
use Rattle.erst_commands.proofs.equivalence.equivalent_flashes_boot_alike.Goals as goal

pub returns-clause-machines : goal.returns-clause-machines
returns-clause-machines c = boots_alike

pub returns-clause-flashes : goal.returns-clause-flashes
returns-clause-flashes c = λ geometry first second one other same. boots_from_alike geometry first second one other same.records same.steps same.copies
