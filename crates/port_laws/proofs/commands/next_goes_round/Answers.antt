use Rattle.port_laws.proofs.RoundLemmas.{next_round}
use Rattle.port_laws.proofs.commands.next_goes_round.Goals as goal

pub returns : goal.returns
returns c = λ addresses first run. next_round addresses run.budget first run.answer run.left run.last
