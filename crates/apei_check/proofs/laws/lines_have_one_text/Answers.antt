use Rattle.apei_check.proofs.OneText.{one_of_lines}
use Rattle.apei_check.proofs.laws.lines_have_one_text.Goals as goal

pub returns : goal.returns
returns c = one_of_lines c.one_check_line.ensures
