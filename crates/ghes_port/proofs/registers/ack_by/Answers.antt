use Rattle.std.proofs.Common.{◌<◌, ◌^◌, ℕ, sym, subst, ◌∙◌, arith}
use Rattle.apei_tables.specs.Access.{bits}
use Rattle.ghes_port.proofs.RegisterLemmas.{has_bits, inside_is}
use Rattle.ghes_port.proofs.registers.ack_by.Goals as goal

pub returns-else-not-lies_within-clause-bits : goal.returns-else-not-lies_within-clause-bits
returns-else-not-lies_within-clause-bits c =
    let register = c.in-Ok.register in
    let write = c.args.ack.now.write in
    let some : 0 < write = omega (arith, c.if-ack-eq0.false) in
    let inside = inside_is write register (sym c.lies_within.ensures ∙ c.if-not-lies_within.false) in
    subst (λ (n : ℕ). (0 < n) × (n < 2 ^ bits register.access)) (sym c.moved_up-in-Ok.ensures) (has_bits write register.offset register.access some inside)
