use Rattle.apei_check.proofs.RunLemmas.{is_done}
use Rattle.apei_check.proofs.check.check_script.Goals as goal

pub returns-clause-done : goal.returns-clause-done
returns-clause-done g c = is_done _ _ _ _ _ _ _ _ _ _ _ _ c.check_lines.ensures.checked c.check_lines.ensures.source c.check_lines.ensures.sink
