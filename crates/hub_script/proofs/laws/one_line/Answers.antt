use Rattle.hub_script.proofs.OneLine.{one_line}
use Rattle.hub_script.proofs.laws.one_line.Goals as goal

pub returns : goal.returns
returns c = one_line
