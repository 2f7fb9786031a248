use Rattle.std.proofs.Common.{inl, inr}
use Rattle.script_lines.proofs.CommonLemmas.{common_length-stops}
use Rattle.script_lines.proofs.keywords.common_len.Goals.{then-i-text-via-then-i-text, then-i-text-via-else-i-text+then-text-i}
use Rattle.script_lines.proofs.keywords.common_len.Goals as goal

pub returns-then-i-text : goal.returns-then-i-text
returns-then-i-text c =
    common_length-stops c.args.word.now c.args.text.now c.loop-i.i c.loop-i-test.true c.loop-i.invariant.1
    (elim c.then-i-text.branch [
      | then-i-text-via-then-i-text w ↦ inl w.if-i-text.true
      | then-i-text-via-else-i-text+then-text-i w ↦ inr w.if-text-i.true
    ])
