use Rattle.apei_check.proofs.OneItem.{one_hest}
use Rattle.apei_check.proofs.laws.hest_lines_are_one_list.Goals as goal

pub returns : goal.returns
returns c = one_hest
