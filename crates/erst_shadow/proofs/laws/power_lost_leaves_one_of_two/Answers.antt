use Rattle.erst_shadow.proofs.CrashLemmas.{change_crash, read_crash, dummy_store}
use Rattle.erst_shadow.proofs.laws.power_lost_leaves_one_of_two.Goals as goal

pub returns-clause-change : goal.returns-clause-change
returns-clause-change c = λ first pieces id command requests run. change_crash pieces first run.last id command requests run.budget run.answer run.left

pub returns-clause-read : goal.returns-clause-read
returns-clause-read c = λ first pieces id run. read_crash pieces first run.last id run.budget run.answer run.left

pub returns-clause-dummy : goal.returns-clause-dummy
returns-clause-dummy c = λ first pieces run. dummy_store pieces first run.last run.budget run.answer run.left
