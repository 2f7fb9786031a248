use Rattle.erst_commands.proofs.OneLemmas.{one_list}
use Rattle.erst_commands.proofs.equivalence.a_region_has_one_list.Goals as goal

pub returns : goal.returns
returns c = λ region blocks others left rest. one_list blocks others left rest region
