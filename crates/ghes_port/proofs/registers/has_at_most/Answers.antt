use Rattle.std.proofs.lemmas.Nat.{pow_pos}
use Rattle.std.proofs.Common.{arith}
use Rattle.ghes_port.proofs.RegisterLemmas.{wide_enough, shifted_out}
use Rattle.ghes_port.proofs.registers.has_at_most.Goals as goal

pub returns-then-width-ge64 : goal.returns-then-width-ge64
returns-then-width-ge64 c = wide_enough c.args.number c.args.width (omega (arith, c.ranges.number.fits)) c.if-width-ge64.true

pub returns-else-width-ge64 : goal.returns-else-width-ge64
returns-else-width-ge64 c = shifted_out c.args.number _ (pow_pos c.args.width)
