use Rattle.std.proofs.Common.{take}
use Rattle.script_lines.specs.Keywords.{HasNoKeyword}
use Rattle.script_lines.proofs.keywords.keyword_of.Given as goal

abbrev pub invariant-loop-keyword : goal.invariant-loop-keyword
invariant-loop-keyword g l = HasNoKeyword g.K.Keyword.codes l.text l.reach (take l.keyword-index l.keywords)
