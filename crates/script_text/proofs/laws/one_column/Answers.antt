use Rattle.script_lines.proofs.ColumnLemmas.{same_column}
use Rattle.script_text.specs.ScriptGrammar.{IsLine}
use Rattle.script_text.proofs.laws.one_column.Goals as goal

pub returns : goal.returns
returns c = same_column IsLine
