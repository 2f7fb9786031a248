use Rattle.std.proofs.Common.{arith}
use Rattle.std.proofs.lemmas.Slice.{between_to_end}
use Rattle.script_text.specs.ScriptGrammar.{IsLine}
use Rattle.script_text.specs.ScriptText.{codes_of, Follows}
use Rattle.script_text.proofs.ScriptLemmas.{all_words, script}
use Rattle.script_lines.proofs.KeywordLemmas.{behind_breaks, passed_all}
use Rattle.script_text.proofs.script_line.ScriptLine.from_text.Goals as goal

pub returns-in-Err-from_parts : goal.returns-in-Err-from_parts
returns-in-Err-from_parts c =
    behind_breaks codes_of Follows all_words IsLine script c.in-Ok.word c.args.text.now c.bytes-at.result.now _ c.in-Err-from_parts.reach c.requires
    c.bytes-at.ensures c.in-Ok.ensures.begins (between_to_end c.args.text.now _ _ (omega arith)) c.in-Err-from_parts.ensures

pub returns-in-Err : goal.returns-in-Err
returns-in-Err c = passed_all codes_of Follows all_words IsLine script c.args.text.now c.in-Err.reach c.requires c.in-Err.ensures
