use Rattle.std.proofs.Common.{◌∙◌, arith}
use Rattle.ghes_ack.proofs.WindowLemmas.{read_filled, address_fits}
use Rattle.ghes_ack.proofs.window.BlockWindow.read_part.Goals as goal

pub overflow_add-self : goal.overflow_add-self
overflow_add-self c = omega (arith, address_fits c.args.self.now c.args.ram.now c.args.at _ c.requires.block c.requires.inside)

pub returns : goal.returns
returns c =
    c.look_bytes.ensures.bytes
    ∙ read_filled c.args.self.now c.args.ram.now c.args.at c.args.out.now c.requires.block c.requires.inside
