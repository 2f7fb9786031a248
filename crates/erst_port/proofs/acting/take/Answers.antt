use Rattle.std.proofs.Common.{arith}
use Rattle.erst_port.proofs.ActLemmas.{acted_address, acted_other, acted_number, acted_round}
use Rattle.erst_port.proofs.acting.take.Goals as goal

pub returns-then-code-from : goal.returns-then-code-from
returns-then-code-from c =
    acted_address c.args.device.now c.args.range.now c.args.address c.args.code c.action.new.self c.action.new.range
    c.action.ensures.acts c.action.ensures.effect (c.action.ensures.copies tt) c.set_value.new.self (omega arith) c.set_value.ensures

pub returns-then-code-from-2 : goal.returns-then-code-from-2
returns-then-code-from-2 c =
    acted_other c.args.device.now c.args.range.now c.args.address c.args.code c.action.new.self c.action.new.range
    c.action.ensures.acts c.action.ensures.effect (c.action.ensures.copies tt) (λ is. omega arith) (λ is. omega arith)

pub returns-then-value-eq18446744073709551615 : goal.returns-then-value-eq18446744073709551615
returns-then-value-eq18446744073709551615 c =
    acted_round c.args.device.now c.args.range.now c.args.address c.args.code c.action.new.self c.action.new.range
    c.action.ensures.acts c.action.ensures.effect (c.action.ensures.copies tt) c.action-then-value-eq18446744073709551615.new.self
    c.action-then-value-eq18446744073709551615.new.range (omega arith) (omega arith)
    c.action-then-value-eq18446744073709551615.ensures.acts

pub returns-else-value-eq18446744073709551615 : goal.returns-else-value-eq18446744073709551615
returns-else-value-eq18446744073709551615 c =
    acted_number c.args.device.now c.args.range.now c.args.address c.args.code c.action.new.self c.action.new.range
    c.action.ensures.acts c.action.ensures.effect (c.action.ensures.copies tt) (omega arith) (λ all. omega arith)
