use Rattle.apei_cli.proofs.WordLemmas.{same_plan, same_path}
use Rattle.apei_cli.proofs.laws.words_ask_for_one_plan.Goals as goal

pub returns-clause-plan : goal.returns-clause-plan
returns-clause-plan c = same_plan

pub returns-clause-path : goal.returns-clause-path
returns-clause-path c = same_path
