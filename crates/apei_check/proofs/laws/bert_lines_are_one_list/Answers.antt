use Rattle.apei_check.proofs.OneItem.{one_bert}
use Rattle.apei_check.proofs.laws.bert_lines_are_one_list.Goals as goal

pub returns : goal.returns
returns c = one_bert
