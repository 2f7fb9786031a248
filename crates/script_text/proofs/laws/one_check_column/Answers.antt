use Rattle.script_lines.proofs.ColumnLemmas.{same_column}
use Rattle.script_text.specs.CheckGrammar.{IsCheckLine}
use Rattle.script_text.proofs.laws.one_check_column.Goals as goal

pub returns : goal.returns
returns c = same_column IsCheckLine
