use Rattle.std.proofs.Common.{arith}
use Rattle.std.proofs.lemmas.Slice.{between_to_end}
use Rattle.hub_script.specs.HubGrammar.{IsLine}
use Rattle.hub_script.proofs.Terms.{Follows}
use Rattle.hub_script.proofs.Terms.{codes_of}
use Rattle.hub_script.proofs.LineLemmas.{all_words, hubs}
use Rattle.script_lines.proofs.KeywordLemmas.{behind_breaks, passed_all}
use Rattle.hub_script.proofs.hub_line.HubLine.from_text.Goals as goal

pub returns-in-Err-from_parts : goal.returns-in-Err-from_parts
returns-in-Err-from_parts c =
    behind_breaks codes_of Follows all_words IsLine hubs c.in-Ok.word c.args.text.now c.bytes-at.result.now _ c.in-Err-from_parts.reach c.requires
    c.bytes-at.ensures c.in-Ok.ensures.begins (between_to_end c.args.text.now _ _ (omega arith)) c.in-Err-from_parts.ensures

pub returns-in-Err : goal.returns-in-Err
returns-in-Err c = passed_all codes_of Follows all_words IsLine hubs c.args.text.now c.in-Err.reach c.requires c.in-Err.ensures
