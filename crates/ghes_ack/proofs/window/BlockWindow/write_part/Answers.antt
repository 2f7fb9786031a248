use Rattle.std.proofs.Common.{◌∙◌, arith}
use Rattle.ghes_ack.proofs.WindowLemmas.{write_is, address_fits}
use Rattle.ghes_ack.proofs.window.BlockWindow.write_part.Goals as goal

pub overflow_add-self : goal.overflow_add-self
overflow_add-self c = omega (arith, address_fits c.args.self.now c.args.ram.now c.args.at _ c.requires.block c.requires.inside)

pub returns : goal.returns
returns c =
    c.write_bytes.ensures.1
    ∙ write_is c.args.self.now c.args.ram.now c.args.at c.args.bytes.now c.requires.block c.requires.some c.requires.inside
