use Rattle.std.proofs.Common.{◌≡◌, ◌+◌, ◌≤◌, length, drop}
use Rattle.script_lines.specs.Keywords.{common_length}
use Rattle.script_lines.proofs.keywords.common_len.Given as goal

abbrev pub invariant-loop-i : goal.invariant-loop-i
invariant-loop-i l = (l.i ≤ length l.text) × (common_length l.word l.text ≡ l.i + common_length (drop l.i l.word) (drop l.i l.text))
