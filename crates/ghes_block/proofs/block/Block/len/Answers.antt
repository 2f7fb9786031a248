use Rattle.std.proofs.Common.{sym, ap, ◌∙◌}
use Rattle.ghes_block.specs.Grammar.{BlockValue}
use Rattle.ghes_block.proofs.Whole.{whole}
use Rattle.ghes_block.proofs.block.Block.len.Goals as goal

pub returns : goal.returns
returns c = sym (whole c.self.inside.bytes.now c.self.inside.entries c.self.invariant).size_is ∙ ap (λ (b : BlockValue). b.size) c.self.view_is
