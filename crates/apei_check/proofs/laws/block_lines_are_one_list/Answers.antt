use Rattle.apei_check.proofs.OneItem.{one_status_block}
use Rattle.apei_check.proofs.laws.block_lines_are_one_list.Goals as goal

pub returns : goal.returns
returns c = one_status_block
