use Rattle.script_text.proofs.ScriptLemmas.{means}
use Rattle.script_text.proofs.laws.a_text_means_its_line.Goals as goal

pub returns : goal.returns
returns c = means
