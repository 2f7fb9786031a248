use Rattle.script_text.proofs.OneCheckLine.{one_check_line}
use Rattle.script_text.proofs.laws.one_check_line.Goals as goal

pub returns : goal.returns
returns c = λ a b. one_check_line a b
