use Rattle.script_lines.proofs.ColumnLemmas.{same_column}
use Rattle.hub_script.specs.HubGrammar.{IsLine}
use Rattle.hub_script.proofs.laws.one_column.Goals as goal

pub returns : goal.returns
returns c = same_column IsLine
