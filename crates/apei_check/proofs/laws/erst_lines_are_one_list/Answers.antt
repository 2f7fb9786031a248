use Rattle.apei_check.proofs.OneItem.{one_erst}
use Rattle.apei_check.proofs.laws.erst_lines_are_one_list.Goals as goal

pub returns : goal.returns
returns c = one_erst
