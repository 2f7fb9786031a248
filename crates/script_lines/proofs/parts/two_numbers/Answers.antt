use Rattle.std.specs.Prelude.{decimal}
use Rattle.std.proofs.Common.{arith, inl, inr, subst, ℕ, List, refl}
use Rattle.std.proofs.lemmas.Slice.{between_to_end}
use Rattle.script_lines.specs.Columns.{Breaks}
use Rattle.script_lines.specs.Parts.{IsNumber}
use Rattle.script_lines.proofs.NumberThenLemmas.{then_stops, then_goes}
use Rattle.script_lines.proofs.parts.two_numbers.Goals.{then-digits-eq0-via-then-digits-eq0, then-digits-eq0-via-else-digits-eq0+then-digits-text}
use Rattle.script_lines.proofs.parts.two_numbers.Goals.{then-digits-eq0-via-else-digits-eq0+else-digits-text+then-text-digits-ne32}
use Rattle.script_lines.proofs.parts.two_numbers.Goals as goal

pub returns-then-digits-eq0 : goal.returns-then-digits-eq0
returns-then-digits-eq0 c =
    then_stops c.args.first (IsNumber c.args.least c.args.most) c.longest_number-digits.result.value c.longest_number-digits.result.len c.args.text.now
    (omega arith) (decimal c.args.most, (c.args.most, (let h = c.requires.least in let h' = c.requires.most in omega arith), omega arith, refl))
    c.longest_number-digits.ensures
    (elim c.then-digits-eq0.branch [
      | then-digits-eq0-via-then-digits-eq0 w ↦ inl w.if-digits-eq0.true
      | then-digits-eq0-via-else-digits-eq0+then-digits-text w ↦ inr (inl w.if-digits-text.true)
      | then-digits-eq0-via-else-digits-eq0+else-digits-text+then-text-digits-ne32 w ↦ inr (inr w.if-text-digits-ne32.true)
    ])

pub returns-in-Err : goal.returns-in-Err
returns-in-Err c =
    let within = c.longest_number-digits.ensures.within in
    then_goes c.args.first (IsNumber c.args.least c.args.most) c.longest_number-digits.result.value c.longest_number-digits.result.len c.in-Err.reach
    c.args.text.now (omega arith) c.longest_number-digits.ensures c.if-digits-eq0.false
    (omega arith) c.if-text-digits-ne32.false
    (subst (λ (t : List ℕ). Breaks (IsNumber c.args.least c.args.most) t c.in-Err.reach) (between_to_end c.args.text.now _ _ (omega arith)) c.in-Err.ensures)
