use Rattle.script_lines.proofs.NumberLemmas.{IsRead}
use Rattle.script_lines.proofs.parts.longest_number.Given as goal

abbrev pub invariant-loop-i : goal.invariant-loop-i
invariant-loop-i l = IsRead l.least l.most l.text l.value l.i
