use Rattle.std.proofs.Common.{◌≡◌, ◌∙◌, false, nat_lt, sym, arith}
use Rattle.std.proofs.lemmas.Grind.{common_steps}
use Rattle.field_lines.proofs.NumberLemmas.{no_such_bit}
use Rattle.field_lines.proofs.number.has_bit.Goals as goal

pub returns-else-bit-lt64 : goal.returns-else-bit-lt64
returns-else-bit-lt64 c =
    let above : nat_lt c.args.bit 64 ≡ false = grind (arith, common_steps) in
    above ∙ sym (no_such_bit c.args.number c.args.bit (omega arith) c.if-bit-lt64.false)
