use Rattle.ghes_ack.proofs.CallLemmas.{hands_over}
use Rattle.ghes_ack.proofs.laws.every_list_of_calls.Goals as goal

pub returns : goal.returns
returns c = hands_over
