use Rattle.std.proofs.Common.{arith, inl, inr}
use Rattle.script_lines.proofs.NumberLemmas.{number_breaks}
use Rattle.script_lines.proofs.parts.number.Goals.{then-digits-eq0-via-then-digits-eq0, then-digits-eq0-via-else-digits-eq0+then-digits-text}
use Rattle.script_lines.proofs.parts.number.Goals as goal

pub returns-then-digits-eq0 : goal.returns-then-digits-eq0
returns-then-digits-eq0 c =
    number_breaks c.args.least c.args.most c.longest_number-digits.result.value c.longest_number-digits.result.len c.args.text.now c.requires.least
    c.requires.most (omega arith) c.longest_number-digits.ensures
    (elim c.then-digits-eq0.branch [
      | then-digits-eq0-via-then-digits-eq0 w ↦ inl w.if-digits-eq0.true
      | then-digits-eq0-via-else-digits-eq0+then-digits-text w ↦ inr w.if-digits-text.true
    ])
