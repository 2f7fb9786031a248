use Rattle.apei_check.proofs.OneItem.{one_framed_record}
use Rattle.apei_check.proofs.laws.record_lines_are_one_list.Goals as goal

pub returns : goal.returns
returns c = one_framed_record
