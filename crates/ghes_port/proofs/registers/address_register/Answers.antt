use Rattle.std.proofs.Common.{sym, ◌∙◌}
use Rattle.ghes_port.proofs.RegisterLemmas.{fits_field, is_below}
use Rattle.ghes_port.proofs.registers.address_register.Goals as goal

pub returns-then-has_at_most-clause-fits : goal.returns-then-has_at_most-clause-fits
returns-then-has_at_most-clause-fits c =
    fits_field c.args.setup.now.source.status c.in-Ok.register c.args.setup.now.block (sym c.in-Ok.ensures.exact) (is_below _ _ (sym c.has_at_most.ensures ∙ c.if-has_at_most.true))
